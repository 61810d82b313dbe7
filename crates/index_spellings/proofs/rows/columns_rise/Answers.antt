use Rattle.std.proofs.Common.{◌∙◌, sym, arith}
use Rattle.index_spellings.proofs.RowTests.{no_number_above}
use Rattle.index_spellings.proofs.rows.columns_rise.Goals as goal

pub returns-then-at-len : goal.returns-then-at-len
returns-then-at-len c = sym (c.loop-at.invariant ∙ no_number_above c.args.above.now c.args.below.now c.loop-at.at (omega arith) (omega arith))
