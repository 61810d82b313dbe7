use Rattle.std.proofs.Common.{◌-◌}
use Rattle.index_rules.specs.Lifts.{one_code}
use Rattle.index_rules.proofs.LiftedAnswers.{all_gathered}
use Rattle.index_rules.proofs.lifting.lift_whole.Goals as goal

pub returns-clause-lifts : goal.returns-clause-lifts
returns-clause-lifts g c =
    all_gathered (one_code (g.R.Rule.facts c.args.rule.now) (c.args.component - 1)) (c.args.component - 1) c.args.value.now.rank c.args.value.now c.add_answers.new.out c.finish.result c.in_ok-add_answers.ensures.lifted c.finish.ensures
