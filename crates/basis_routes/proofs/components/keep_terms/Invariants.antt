use Rattle.std.proofs.Common.{◌-◌}
use Rattle.basis_routes.specs.KeptTerms.{AreKept}
use Rattle.basis_routes.proofs.components.keep_terms.Given as goal

abbrev pub invariant-loop-at : goal.invariant-loop-at
invariant-loop-at l = AreKept (l.component - 1) l.value l.at l.out
