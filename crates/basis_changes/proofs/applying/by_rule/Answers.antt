use Rattle.std.proofs.Common.{◌-◌}
use Rattle.basis_changes.proofs.ChangesBetween.{can_change, some_change}
use Rattle.basis_changes.proofs.applying.by_rule.Goals as goal

pub lift-requires-clause-can : goal.lift-requires-clause-can
lift-requires-clause-can g c =
    can_change (g.R.Rule.facts c.args.rule) g.A.Space.basis g.B.Space.basis c.args.from c.args.to g.R.ChangeRule.growth (c.args.component - 1) c.args.combo.now c.requires.from c.requires.to (g.met.R.ChangeRule.states c.args.rule) c.requires.can

pub returns : goal.returns
returns g c =
    some_change (g.R.Rule.facts c.args.rule) g.A.Space.basis g.B.Space.basis c.args.from c.args.to g.R.ChangeRule.growth (c.args.component - 1) c.args.combo.now c.lift.result c.requires.from c.requires.to (g.met.R.ChangeRule.states c.args.rule) c.lift.ensures.lifts
