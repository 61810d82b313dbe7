use Rattle.std.proofs.Common.{◌-◌}
use Rattle.index_rules.specs.Lifting.{AreLifted}
use Rattle.index_rules.specs.Lifts.{two_codes}
use Rattle.index_rules.proofs.multiplying.add_products.Given as goal

abbrev pub invariant-loop-at : goal.invariant-loop-at
invariant-loop-at g l = AreLifted (two_codes g.A.Space.basis g.A.Algebra.product_growth (l.component - 1)) (l.component - 1) (l.value.rank - 1) l.value.terms l.at l.out
