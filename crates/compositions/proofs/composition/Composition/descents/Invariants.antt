use Rattle.std.proofs.Common.{◌≡◌, ◌++◌, take, drop, sum}
use Rattle.realisations.specs.Descents.{partial_sums, descent_set}
use Rattle.compositions.proofs.composition.Composition.descents.Given as goal

abbrev pub invariant-loop-at : goal.invariant-loop-at
invariant-loop-at l = (descent_set l.parts ≡ l.places ++ partial_sums l.total (drop l.at l.parts)) × (l.total ≡ sum (take l.at l.parts))
