use Rattle.std.proofs.Common.{◌≡◌, ◌++◌, take, drop}
use Rattle.linear_combos.specs.Merges.{multiples}
use Rattle.linear_combos.proofs.unreduced.multiply_each.Given as goal

abbrev pub invariant-loop-at : goal.invariant-loop-at
invariant-loop-at l = l.terms.items ≡ multiples l.by (take l.at l.initial.terms.items) ++ drop l.at l.initial.terms.items
