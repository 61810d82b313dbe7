use Rattle.std.proofs.Common.{◌≡◌, ℕ, ◌+◌, ◌-◌, ◌++◌, List, length, take, drop, arith, sym, ap, ◌∙◌}
use Rattle.std.proofs.lemmas.List.{take-append-drop, drop-drop, length-drop, take_rest}
use Rattle.std.proofs.Math.ListN.{drop_of_length-le}
use Rattle.hopf_io.proofs.memory_source.MemorySourceSource.read.Goals as goal

-- what was copied is the front of what was left
front_given : (xs new : List ℕ) (at n : ℕ) → take n new ≡ take n (drop at xs) → drop at xs ≡ take n new ++ drop (at + n) xs
front_given xs new at n same =
    sym (take-append-drop n (drop at xs)) ∙ ap (λ l. l ++ drop n (drop at xs)) (sym same) ∙ ap (λ l. take n new ++ l) (drop-drop n at xs)

pub returns-clause-bytes : goal.returns-clause-bytes
returns-clause-bytes c =
    let count = c.copy_front-count.result in
    let at = c.self.inside.at in
    let input = c.self.inside.input in
    let left : c.args.self.now.left ≡ drop at input = ap (λ s. s.left) (sym c.self.view_is) in
    let whole : c.as_slice.result.now ≡ input = c.as_slice.ensures in
    let slice = c.as_slice.result.now in
    let front = c.copy_front-count.ensures.front ∙ ap (take count) (take_rest slice at) ∙ ap (λ l. take count (drop at l)) whole in
    let all_left : length (take (length slice - at) (drop at slice)) ≡ length input - at =
    ap length (take_rest slice at) ∙ length-drop at slice ∙ ap (λ l. length l - at) whole in (
      left ∙ front_given input c.copy_front-count.new.to at count front,
      λ none some. drop_of_length-le input (omega (arith, c.copy_front-count.ensures.count, c.copy_front-count.ensures.len, all_left)),
    )
