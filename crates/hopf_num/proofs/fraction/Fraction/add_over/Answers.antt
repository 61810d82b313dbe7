use Rattle.std.proofs.Common.{◌≤◌, subst, rules}
use Rattle.hopf_num.proofs.CommonDivisors.{lcm-pos}
use Rattle.hopf_num.proofs.SumsOfRatios.{ratio-sum}
use Rattle.hopf_num.proofs.fraction.Fraction.add_over.Goals as goal

pub lowest-requires-clause-positive : goal.lowest-requires-clause-positive
lowest-requires-clause-positive c =
    lcm-pos _ _ c.args.den (subst (λ r. 1 ≤ r.den) c.self.view_is c.self.invariant.positive) (subst (λ r. 1 ≤ r.den) c.other.view_is c.other.invariant.positive) c.requires.least

pub returns-clause-value : goal.returns-clause-value
returns-clause-value c =
    let positive = lcm-pos _ _ c.args.den (subst (λ r. 1 ≤ r.den) c.self.view_is c.self.invariant.positive) (subst (λ r. 1 ≤ r.den) c.other.view_is c.other.invariant.positive) c.requires.least in
    ratio-sum c.args.self.now.num c.args.other.now.num c.in_ok-num.num c.lowest.result.num c.args.self.now.den c.args.other.now.den c.args.den c.lowest.result.den
    positive c.requires.least.0 c.requires.least.1 (search rules) (search rules)
