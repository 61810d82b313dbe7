use Rattle.std.proofs.Common.{◌∙◌, sym, arith}
use Rattle.index_spellings.proofs.RowTests.{is_below-columns}
use Rattle.index_spellings.proofs.rows.is_below.Goals as goal

pub returns-then-len-gt0 : goal.returns-then-len-gt0
returns-then-len-gt0 c = c.columns_rise.ensures ∙ sym (is_below-columns c.args.above.now c.args.below.now (omega arith))
