use Rattle.std.proofs.Common.{◌≡◌, ◌++◌, take}
use Rattle.binary_trees.specs.Places.{each_with}
use Rattle.binary_trees.proofs.upper_parts.push_each.Given as goal

abbrev pub invariant-loop-at : goal.invariant-loop-at
invariant-loop-at l = l.out.items ≡ l.initial.out.items ++ each_with l.part (take l.at l.codes)
