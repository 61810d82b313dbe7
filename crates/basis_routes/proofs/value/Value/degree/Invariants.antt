use Rattle.std.proofs.Common.{◌≡◌, take}
use Rattle.hopf_laws.specs.Values.{greatest_degree}
use Rattle.basis_routes.proofs.value.Value.degree.Given as goal

abbrev pub invariant-loop-at : goal.invariant-loop-at
invariant-loop-at l = l.greatest ≡ greatest_degree l.self.bases (take l.at l.self.combination.terms)
