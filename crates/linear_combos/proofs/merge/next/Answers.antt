use Rattle.std.proofs.Common.{arith}
use Rattle.linear_combos.proofs.Merging.{next_by_read}
use Rattle.linear_combos.proofs.merge.next.Goals as goal

pub returns : goal.returns
returns c = next_by_read c.args.left.now c.args.right.now c.args.at.0 c.args.at.1 _ _ c.cmp.result c.requires.left c.requires.right (omega arith) (omega arith) c.cmp.ensures
