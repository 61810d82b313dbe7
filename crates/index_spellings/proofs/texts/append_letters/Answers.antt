use Rattle.std.proofs.Common.{ℕ, ◌+◌, List, [], ◌++◌, map, refl, sym, ◌∙◌, ap, arith}
use Rattle.std.specs.Fmt.{decimal}
use Rattle.std.proofs.lemmas.List.{get_or-map, length-map}
use Rattle.index_spellings.specs.Texts.{comma_separated}
use Rattle.index_spellings.proofs.TextsInTurn.{next_text}
use Rattle.index_spellings.proofs.texts.append_letters.Goals as goal

pub loop-at-preserved : goal.loop-at-preserved
loop-at-preserved c =
    let code : List ℕ = c.args.code.now in
    next_text (map decimal code) c.loop-at.at (c.loop-at.at + 1) (c.args.out.now ++ comma_separated (map decimal code))
    c.loop-at.out c.push_all-in-loop-at.new.self c.push_all-in-loop-at-2.new.self c.letter_text-in-loop-at.result.now
    (omega (arith, c.loop-at-test.true, length-map code decimal)) refl
    (c.letter_text-in-loop-at.ensures ∙ ap decimal c.letter-in-loop-at.ensures ∙ sym (get_or-map decimal code c.loop-at.at 0 [] (omega (arith, c.loop-at-test.true))))
    c.loop-at.invariant c.in_ok-push_all-2.ensures.ok c.in_ok-push_all-3.ensures.ok
