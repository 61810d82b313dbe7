use Rattle.std.proofs.Common.{◌-◌, ◌∙◌, sym, arith}
use Rattle.index_spellings.proofs.RowTests.{last_rises}
use Rattle.index_spellings.proofs.rows.rises.Goals as goal

pub returns : goal.returns
returns c = sym (c.loop-at.invariant ∙ last_rises c.args.row.now (c.loop-at.at - 1) (omega arith))
