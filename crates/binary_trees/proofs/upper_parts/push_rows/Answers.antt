use Rattle.std.proofs.Common.{sym, subst, arith}
use Rattle.std.specs.Prelude.{slice_index_or}
use Rattle.binary_trees.specs.Places.{AreSides}
use Rattle.binary_trees.proofs.upper_parts.push_rows.Goals as goal

pub push_row-requires : goal.push_row-requires
push_row-requires c =
    λ k d lt. subst (λ a. AreSides a (slice_index_or c.args.rights.now k d)) (sym c.left-item.is) (c.requires c.loop-left.left-index c.left-item.result (omega arith) k d lt)
