use Rattle.std.proofs.Common.{arith, ◌∙◌, ap}
use Rattle.packed_words.proofs.CutWords.{code_up_to, low_code, low_left_out, low_taken}
use Rattle.packed_words.proofs.cutting.low_letters.Goals as goal
use Rattle.packed_words.proofs.cutting.low_letters.Goals.{then-letter-k, else-letter-k}

pub with-low-requires : goal.with-low-requires
with-low-requires c =
    low_code c.args.word.now c.loop-at.low c.loop-at.low c.args.k c.loop-at.at c.letter-letter.result (omega (arith, c.len-at-end.ensures.value)) c.letter-letter.ensures
    (code_up_to c.args.k c.args.word.now c.requires) c.loop-at.invariant (omega arith)

pub loop-at-preserved : goal.loop-at-preserved
loop-at-preserved c =
    elim c.if-letter-k.branch [
      | then-letter-k w ↦ low_taken c.args.word.now c.loop-at.low c.if-letter-k.low c.args.k c.loop-at.at c.letter-letter.result (omega (arith, c.len-at-end.ensures.value)) c.letter-letter.ensures
          c.loop-at.invariant (omega (arith, w.if-letter-k.true)) (w.low-is ∙ w.with-low.ensures)
      | else-letter-k w ↦ low_left_out c.args.word.now c.loop-at.low c.if-letter-k.low c.args.k c.loop-at.at c.letter-letter.result (omega (arith, c.len-at-end.ensures.value)) c.letter-letter.ensures
          c.loop-at.invariant (omega (arith, w.if-letter-k.false)) w.low-is
    ]
