use Rattle.std.proofs.Common.{◌≤◌, ◌+◌, [], List, ℕ, take, drop}
use Rattle.realisations.specs.Standardisation.{pack}
use Rattle.word_laws.specs.AddedCodes.{AddsEach, times_in}
use Rattle.packed_words.specs.Sizes.{IsPackedWordOf}
use Rattle.packed_words.proofs.listing.grown.Given as goal

abbrev pub invariant-loop-at : goal.invariant-loop-at
invariant-loop-at l = AddsEach (λ (w : List ℕ). IsPackedWordOf (l.n + 1) w × (1 ≤ times_in (pack (drop 1 w)) (take l.at l.codes))) [] l.longer
