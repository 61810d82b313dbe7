use Rattle.std.proofs.Common.{◌≤◌, ◌-◌, length}
use Rattle.linear_combos.specs.Merges.{GreaterFrom}
use Rattle.linear_combos.proofs.Place.{SmallerBelow}
use Rattle.linear_combos.proofs.terms.place.Given as goal

abbrev pub invariant-loop-low : goal.invariant-loop-low
invariant-loop-low l = record { ordered : l.low ≤ l.high; in_range : l.high ≤ length l.terms; smaller : SmallerBelow l.terms l.key l.low; greater : GreaterFrom l.terms l.key l.high }

abbrev pub decreases-loop-low : goal.decreases-loop-low
decreases-loop-low l = l.high - l.low
