-- Terms to which the elements of a product rule were added.
use Rattle.std.specs.Prelude.{◌≡◌, ◌⊎◌, ℤ, ◌+ℤ◌, map, List, [], ◌∷◌}
use Rattle.realisations.specs.Codes.{Code, Key}
use Rattle.realisations.specs.Combinations.{HasKey, weighed}
use Rattle.realisations.specs.Lists.{int_sum}
use Rattle.realisations.specs.Readings.{Terms}

-- the key is one of the codes
abbrev pub IsCodeOf : List Code → Key → Type 0
IsCodeOf [] key = ⊥
IsCodeOf (c ∷ codes) key = (key ≡ c ∷ []) ⊎ IsCodeOf codes key

-- each element was added once: whatever the keys weigh, the new terms weigh as much as the old ones and the codes; and each key was there before, or is one of the codes
pub record AddsElements (old new : Terms) (codes : List Code) : Type 0 where
  pub weighs : (weight : Key → ℤ) → weighed weight new ≡ weighed weight old +ℤ int_sum (map (λ code. weight (code ∷ [])) codes)
  pub keys : (key : Key) → HasKey new key → HasKey old key ⊎ IsCodeOf codes key
