use Rattle.std.proofs.Common.{◌-◌, rules}
use Rattle.index_rules.specs.Lifts.{one_code}
use Rattle.index_rules.proofs.LiftedAnswers.{lift_over}
use Rattle.realisations.specs.Combinations.{IsCanonical}
use Rattle.index_rules.proofs.lifting.lift.Goals as goal

pub returns-clause-lifts : goal.returns-clause-lifts
returns-clause-lifts g c =
    let canonical : IsCanonical c.over.result.rank c.over.result.den c.over.result.terms = search rules in
    lift_over (one_code (g.R.Rule.facts c.args.rule.now) (c.args.component - 1)) (c.args.component - 1) c.args.value.now.rank c.args.value.now c.in_ok-whole.whole c.over.result c.den_of.result c.den_of.ensures.value c.den_of.ensures.canonical c.in_ok-whole.ensures.lifts canonical c.over.ensures
