-- Words and tableaux cut down to an interval of values.
use Rattle.std.specs.Prelude.{ℕ, ◌&&◌, nat_le, List}
use Rattle.std.specs.List.{filter}
use Rattle.realisations.specs.Standardisation.{standardise}
use Rattle.realisations.specs.Tableaux.{insertion_tableau, reading_word}

-- the letters of a word from a to b
abbrev pub letters_between : ℕ → ℕ → List ℕ → List ℕ
letters_between a b w = filter (λ x. nat_le a x && nat_le x b) w

-- P of the standardised letters from a to b of a word
abbrev pub tableau_between : ℕ → ℕ → List ℕ → List (List ℕ)
tableau_between a b w = insertion_tableau (standardise (letters_between a b w))

-- the restriction of a tableau to the numbers from a to b: P of the standardised letters from a to b of its reading word
abbrev pub restricted : ℕ → ℕ → List (List ℕ) → List (List ℕ)
restricted a b rows = tableau_between a b (reading_word rows)
