use Rattle.std.proofs.Common.{◌≡◌, ◌++◌, take, drop}
use Rattle.coproduct_rules.specs.DegreeCuts.{front_of_degree}
use Rattle.qsym.proofs.cutting.front.Given as goal

abbrev pub invariant-loop-at : goal.invariant-loop-at
invariant-loop-at l = front_of_degree l.degree l.parts ≡ take l.at l.parts ++ front_of_degree l.left (drop l.at l.parts)
