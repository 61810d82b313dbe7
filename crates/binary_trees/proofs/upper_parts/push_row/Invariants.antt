use Rattle.std.proofs.Common.{◌≡◌, ◌++◌, take}
use Rattle.std.specs.List.{flat_map}
use Rattle.binary_trees.specs.Places.{joined_codes}
use Rattle.binary_trees.proofs.upper_parts.push_row.Given as goal

abbrev pub invariant-loop-right : goal.invariant-loop-right
invariant-loop-right l = l.out.items ≡ l.initial.out.items ++ flat_map (λ b. joined_codes l.left b) (take l.right-index l.rights)
