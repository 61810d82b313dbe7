use Rattle.std.proofs.Common.{◌≡◌, ◌-◌, ◌≤◌, drop, get_or, length}
use Rattle.inclusion_laws.specs.DescentsOfIndices.{descents_of_tableau}
use Rattle.inclusion_rules.proofs.descents.descents_of_tableau.Given as goal

abbrev pub invariant-loop-done : goal.invariant-loop-done
invariant-loop-done l = (l.parts ≡ descents_of_tableau (drop (length l.code - l.done) l.code)) × (1 ≤ l.done → l.next ≡ get_or l.code (length l.code - l.done) 0)
