use Rattle.std.proofs.Common.{length, ◌∙◌, ap, arith}
use Rattle.std.specs.List.{concat}
use Rattle.std.specs.Prelude.{Some}
use Rattle.realisations.specs.Standardisation.{count_same}
use Rattle.realisations.specs.Tableaux.{enter}
use Rattle.tableaux.proofs.Insertions.{length-front, next_enters, next_is_new}
use Rattle.tableaux.proofs.insertion.inserted.Goals as goal

pub insert-requires-clause-room : goal.insert-requires-clause-room
insert-requires-clause-room c =
    let small = c.requires.small in
    omega (
      arith,
      ap (λ t. length (concat t)) c.loop-at.invariant,
      length-front c.args.word.now c.loop-at.at (omega (arith, c.loop-at-test.true, c.len-at-end.ensures.value)),
      c.loop-at-test.true,
      c.len-at-end.ensures.value,
      small,
    )

pub insert-requires-clause-new : goal.insert-requires-clause-new
insert-requires-clause-new c =
    (λ i. count_same (c.letter.ensures i) (concat (c.loop-at.invariant i)))
    ∙ next_is_new c.args.word.now c.loop-at.at (omega (arith, c.loop-at-test.true, c.len-at-end.ensures.value)) c.requires.distinct

pub loop-at-preserved : goal.loop-at-preserved
loop-at-preserved c =
    c.insert.ensures
    ∙ (λ i. enter (Some (c.letter.ensures i)) (c.loop-at.invariant i))
    ∙ next_enters c.args.word.now c.loop-at.at (omega (arith, c.loop-at-test.true, c.len-at-end.ensures.value))
