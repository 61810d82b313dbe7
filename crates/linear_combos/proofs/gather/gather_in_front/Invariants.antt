use Rattle.linear_combos.specs.Gathering.{IsInFront}
use Rattle.linear_combos.proofs.gather.gather_in_front.Given as goal

abbrev pub invariant-loop-at : goal.invariant-loop-at
invariant-loop-at l = IsInFront l.initial.terms.items l.at l.last l.terms.items
