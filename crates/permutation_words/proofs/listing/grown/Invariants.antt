use Rattle.std.proofs.Common.{◌≤◌, ◌+◌, [], List, ℕ, take, drop}
use Rattle.realisations.specs.Standardisation.{standardise}
use Rattle.word_laws.specs.AddedCodes.{AddsEach, times_in}
use Rattle.permutation_words.specs.Sizes.{IsPermutationOf}
use Rattle.permutation_words.proofs.listing.grown.Given as goal

abbrev pub invariant-loop-at : goal.invariant-loop-at
invariant-loop-at l = AddsEach (λ (w : List ℕ). IsPermutationOf (l.n + 1) w × (1 ≤ times_in (standardise (drop 1 w)) (take l.at l.codes))) [] l.longer
