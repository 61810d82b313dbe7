use Rattle.antipodes.specs.Subtracting.{SubtractsFollowed}
use Rattle.antipodes.proofs.subtracting.subtract_followed.Given as goal

abbrev pub invariant-loop-at : goal.invariant-loop-at
invariant-loop-at l = SubtractsFollowed l.initial.out l.num l.second l.first.terms l.at l.out
