use Rattle.std.proofs.Common.{ℕ, List, arith, ◌∙◌, ap, sym, ◌++◌}
use Rattle.realisations.specs.Descents.{descent_composition}
use Rattle.permutation_words.proofs.DescentRuns.{first_longer_by, start_of_runs, part_done, part_grows, last_part, done_code, code_at_descent}
use Rattle.permutation_words.proofs.words.descent_composition.Goals as goal
use Rattle.permutation_words.proofs.words.descent_composition.Goals.{then-letter, else-letter}

pub loop-at-init : goal.loop-at-init
loop-at-init c =
    let w : List ℕ = c.args.word.now in
    record {
      composition = start_of_runs w (omega (arith, c.if-len-eq0.false, c.len.ensures.value)) ∙ ap (λ v. v ++ first_longer_by 0 (descent_composition w)) (sym c.empty-parts.ensures);
      some = omega arith;
      behind = omega arith;
    }

pub with-parts-requires : goal.with-parts-requires
with-parts-requires c =
    code_at_descent c.args.word.now c.loop-at.parts c.loop-at.at c.loop-at.part c.loop-at.invariant (omega (arith, c.len-at-end.ensures.value)) (omega (arith, c.letter.ensures, c.letter-in-loop-at.ensures)) c.len.ensures.is_code.short

pub loop-at-preserved : goal.loop-at-preserved
loop-at-preserved c =
    elim c.if-letter.branch [
      | then-letter w ↦ part_done c.args.word.now c.loop-at.parts c.if-letter.parts c.loop-at.at c.loop-at.part c.if-letter.part c.loop-at.invariant (omega (arith, c.len-at-end.ensures.value)) (omega (arith, w.if-letter.true, c.letter.ensures, c.letter-in-loop-at.ensures)) (w.parts-is ∙ w.with-parts.ensures) w.part-is
      | else-letter w ↦ part_grows c.args.word.now c.loop-at.parts c.if-letter.parts c.loop-at.at c.loop-at.part c.if-letter.part c.loop-at.invariant (omega (arith, c.len-at-end.ensures.value)) (omega (arith, w.if-letter.false, c.letter.ensures, c.letter-in-loop-at.ensures)) w.parts-is w.part-is
    ]

pub with-requires : goal.with-requires
with-requires c =
    done_code c.args.word.now c.loop-at.parts _ c.loop-at.part c.len.ensures.is_code.short
    (last_part c.args.word.now c.loop-at.parts c.loop-at.at c.loop-at.part c.loop-at.invariant (omega (arith, c.if-len-eq0.false, c.len.ensures.value, c.len-at-end.ensures.value, c.loop-at-test.false)))

pub returns : goal.returns
returns c =
    c.with.ensures
    ∙ sym (last_part c.args.word.now c.loop-at.parts c.loop-at.at c.loop-at.part c.loop-at.invariant (omega (arith, c.if-len-eq0.false, c.len.ensures.value, c.len-at-end.ensures.value, c.loop-at-test.false)))
