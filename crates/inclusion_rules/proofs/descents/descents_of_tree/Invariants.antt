use Rattle.std.proofs.Common.{◌≡◌, ◌-◌, drop, length}
use Rattle.inclusion_laws.specs.DescentsOfIndices.{descents_of_tree}
use Rattle.inclusion_rules.proofs.descents.descents_of_tree.Given as goal

abbrev pub invariant-loop-done : goal.invariant-loop-done
invariant-loop-done l = l.parts ≡ descents_of_tree (drop (length l.code - l.done) l.code)
