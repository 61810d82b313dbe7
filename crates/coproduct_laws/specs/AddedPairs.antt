-- Terms to which the pairs of a rule were added.
use Rattle.std.specs.Prelude.{◌≡◌, ◌⊎◌, ℤ, ◌+ℤ◌, map, List, [], ◌∷◌}
use Rattle.realisations.specs.Lists.{int_sum}
use Rattle.realisations.specs.Readings.{Terms}
use Rattle.realisations.specs.Combinations.{HasKey, weighed}
use Rattle.realisations.specs.Codes.{Code, Key}

-- the key is one of the pairs
abbrev pub IsPairOf : List (Code × Code) → Key → Type 0
IsPairOf [] key = ⊥
IsPairOf (e ∷ pairs) key = (key ≡ e.0 ∷ e.1 ∷ []) ⊎ IsPairOf pairs key

-- each pair was added once: whatever the keys weigh, the new terms weigh as much as the old ones and the pairs; and each key was there before, or is a pair
pub record AddsPairs (old new : Terms) (pairs : List (Code × Code)) : Type 0 where
  pub weighs : (weight : Key → ℤ) → weighed weight new ≡ weighed weight old +ℤ int_sum (map (λ e. weight (e.0 ∷ e.1 ∷ [])) pairs)
  pub keys : (key : Key) → HasKey new key → HasKey old key ⊎ IsPairOf pairs key
