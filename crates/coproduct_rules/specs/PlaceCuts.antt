-- Permutations cut by places.
use Rattle.std.specs.Prelude.{ℕ, List, map}
use Rattle.realisations.specs.Standardisation.{standardise}
use Rattle.realisations.specs.Words.{word_cuts}

-- for each cut of a permutation the standardisations of both words
abbrev pub place_cuts : List ℕ → List (List ℕ × List ℕ)
place_cuts s = map (λ c. (standardise c.0, standardise c.1)) (word_cuts s)
