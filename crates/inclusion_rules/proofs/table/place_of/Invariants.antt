use Rattle.std.proofs.Common.{◌≡◌, ℕ, ◌<◌, ◌≤◌, ◌-◌, true, false, length}
use Rattle.inclusion_rules.specs.Table.{is_before}
use Rattle.inclusion_rules.proofs.table.place_of.Given as goal

abbrev pub invariant-loop-low : goal.invariant-loop-low
invariant-loop-low l = record {
  ordered : l.low ≤ l.high;
  in_range : l.high ≤ length l.pairs;
  before : (i : ℕ) → i < l.low → is_before l.pairs l.index i ≡ true;
  after : (i : ℕ) → l.high ≤ i → i < length l.pairs → is_before l.pairs l.index i ≡ false;
}

abbrev pub decreases-loop-low : goal.decreases-loop-low
decreases-loop-low l = l.high - l.low
