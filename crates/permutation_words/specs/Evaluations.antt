-- The evaluation of a packed word.
use Rattle.std.specs.Prelude.{ℕ, List, map}
use Rattle.std.specs.List.{range_with_len}
use Rattle.realisations.specs.Standardisation.{count_same}
use Rattle.realisations.specs.Words.{greatest}

-- how often each of 1 to the greatest letter stands in the word, in order
abbrev pub evaluation : List ℕ → List ℕ
evaluation w = map (λ x. count_same x w) (range_with_len 1 (greatest w))
