use Rattle.std.proofs.Common.{◌≡◌, ◌++◌, take}
use Rattle.std.specs.List.{flat_map}
use Rattle.binary_trees.specs.Places.{joined_codes}
use Rattle.binary_trees.proofs.upper_parts.push_rows.Given as goal

abbrev pub invariant-loop-left : goal.invariant-loop-left
invariant-loop-left l = l.out.items ≡ l.initial.out.items ++ flat_map (λ a. flat_map (λ b. joined_codes a b) l.rights) (take l.left-index l.lefts)
