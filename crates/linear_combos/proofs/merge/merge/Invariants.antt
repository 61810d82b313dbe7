use Rattle.std.proofs.Common.{◌≡◌, ◌+◌, ◌-◌, length}
use Rattle.linear_combos.specs.Merges.{IsMerged}
use Rattle.linear_combos.proofs.merge.merge.Given as goal

abbrev pub invariant-loop-at : goal.invariant-loop-at
invariant-loop-at l = record {
  merged : IsMerged l.left l.left_factor l.right l.right_factor l.at.0 l.at.1 l.sum.terms;
  same_rank : l.sum.rank ≡ l.initial.sum.rank;
  same_den : l.sum.den ≡ l.initial.sum.den;
}

abbrev pub decreases-loop-at : goal.decreases-loop-at
decreases-loop-at l = length l.left + length l.right - (l.at.0 + l.at.1)
