use Rattle.std.proofs.Common.{◌≡◌, ◌+◌, suc, List, ℕ, [], ◌∷◌, ◌++◌, length, sym, ◌∙◌, subst, arith}
use Rattle.std.specs.List.{All}
use Rattle.permutation_words.specs.Sizes.{IsSmallPermutation}
use Rattle.realisations.specs.Words.{shuffles}
use Rattle.fsym.proofs.ClassLists.{put_words}
use Rattle.fsym.proofs.classes.push_longer.Goals as goal

pub push_class-requires : goal.push_class-requires
push_class-requires c =
    let number : c.len.result + 1 ≡ suc (length c.args.word.now) = omega (arith, c.len.ensures.value) in
    let next : c.with-next.result ≡ suc (length c.args.word.now) ∷ [] = c.with-next.ensures ∙ (λ i. c.empty.ensures i ++ (number i ∷ [])) in
    subst (λ (ws : List (List ℕ)). All IsSmallPermutation ws) (sym (c.in_ok-words.ensures ∙ (λ i. shuffles (next i) c.args.word.now))) (put_words c.args.word.now c.requires)
