use Rattle.std.proofs.Common.{◌-◌}
use Rattle.index_rules.specs.Lifting.{AddsReplaced}
use Rattle.index_rules.proofs.lifting.add_replaced.Given as goal

abbrev pub invariant-loop-at : goal.invariant-loop-at
invariant-loop-at l = AddsReplaced l.initial.out l.num (l.component - 1) l.key l.by.terms l.at l.out
