use Rattle.std.proofs.Common.{◌≡◌, ◌-◌}
use Rattle.index_rules.specs.Lifting.{AreLifted}
use Rattle.index_rules.specs.Lifts.{one_code}
use Rattle.index_rules.proofs.lifting.add_answers.Given as goal

abbrev pub invariant-loop-at : goal.invariant-loop-at
invariant-loop-at g l = record {
  keeps : g.R.Rule.facts l.rule ≡ g.R.Rule.facts l.fn.rule;
  lifted : AreLifted (one_code (g.R.Rule.facts l.fn.rule) (l.component - 1)) (l.component - 1) l.value.rank l.value.terms l.at l.out;
}
