use Rattle.std.proofs.Common.{◌≡◌, ◌++◌, take, drop}
use Rattle.linear_combos.specs.Merges.{quotients}
use Rattle.linear_combos.proofs.unreduced.divide.Given as goal

abbrev pub invariant-loop-at : goal.invariant-loop-at
invariant-loop-at l = l.terms.items ≡ quotients l.by (take l.at l.initial.terms.items) ++ drop l.at l.initial.terms.items
