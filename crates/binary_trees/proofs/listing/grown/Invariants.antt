use Rattle.std.proofs.Common.{◌≤◌, ◌+◌, [], List, ℕ, take, drop}
use Rattle.word_laws.specs.AddedCodes.{AddsEach, times_in}
use Rattle.binary_trees.specs.Sizes.{IsTreeCodeOf}
use Rattle.binary_trees.proofs.listing.grown.Given as goal

abbrev pub invariant-loop-at : goal.invariant-loop-at
invariant-loop-at l = AddsEach (λ (w : List ℕ). IsTreeCodeOf (l.n + 1) w × (1 ≤ times_in (drop 1 w) (take l.at l.codes))) [] l.longer
