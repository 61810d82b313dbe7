use Rattle.std.proofs.Common.{◌≡◌, drop}
use Rattle.coproduct_rules.specs.DegreeCuts.{rest_past_degree}
use Rattle.qsym.proofs.cutting.rest.Given as goal

abbrev pub invariant-loop-at : goal.invariant-loop-at
invariant-loop-at l = rest_past_degree l.degree l.parts ≡ rest_past_degree l.left (drop l.at l.parts)
