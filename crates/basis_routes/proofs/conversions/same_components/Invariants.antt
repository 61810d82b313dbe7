use Rattle.basis_routes.specs.Changed.{AreSameTo}
use Rattle.basis_routes.proofs.conversions.same_components.Given as goal

abbrev pub invariant-loop-at : goal.invariant-loop-at
invariant-loop-at l = AreSameTo l.at l.a l.b
