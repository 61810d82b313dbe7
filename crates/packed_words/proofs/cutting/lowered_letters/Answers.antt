use Rattle.std.proofs.Common.{arith, ◌∙◌, ap, sym}
use Rattle.packed_words.proofs.CutWords.{code_past, high_code, high_left_out, high_packed, high_taken}
use Rattle.packed_words.proofs.cutting.lowered_letters.Goals as goal
use Rattle.packed_words.proofs.cutting.lowered_letters.Goals.{then-letter-k, else-letter-k}

pub with-high-requires : goal.with-high-requires
with-high-requires c =
    high_code c.args.word.now c.loop-at.high c.loop-at.high c.args.k c.loop-at.at c.letter-letter.result (omega (arith, c.len-at-end.ensures.value)) c.letter-letter.ensures
    (code_past c.args.k c.args.word.now c.requires) c.loop-at.invariant (omega arith)

pub loop-at-preserved : goal.loop-at-preserved
loop-at-preserved c =
    elim c.if-letter-k.branch [
      | then-letter-k w ↦ high_taken c.args.word.now c.loop-at.high c.if-letter-k.high c.args.k c.loop-at.at c.letter-letter.result (omega (arith, c.len-at-end.ensures.value)) c.letter-letter.ensures
          c.loop-at.invariant (omega (arith, w.if-letter-k.true)) (w.high-is ∙ w.with-high.ensures)
      | else-letter-k w ↦ high_left_out c.args.word.now c.loop-at.high c.if-letter-k.high c.args.k c.loop-at.at c.letter-letter.result (omega (arith, c.len-at-end.ensures.value)) c.letter-letter.ensures
          c.loop-at.invariant (omega (arith, w.if-letter-k.false)) w.high-is
    ]

pub returns-clause-packed : goal.returns-clause-packed
returns-clause-packed c = high_packed c.args.k c.loop-at.at c.args.word.now c.loop-at.high c.requires (omega (arith, c.len-at-end.ensures.value)) c.loop-at.invariant
