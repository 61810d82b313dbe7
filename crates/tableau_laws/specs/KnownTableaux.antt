-- Known restrictions, by evaluation. Each tells the letters of an interval from others, or standardised ones from those that are not.
use Rattle.std.specs.Prelude.{◌≡◌, [], ◌∷◌, refl}
use Rattle.tableau_laws.specs.Intervals.{letters_between, restricted}

-- the letters of 2413 from 2 to 3
pub letters_between-2413 : letters_between 2 3 (2 ∷ 4 ∷ 1 ∷ 3 ∷ []) ≡ 2 ∷ 3 ∷ []
letters_between-2413 = refl

-- the rows 12 and 3, from 2 to 3: the reading word 312 has the letters 32 there, standardised 21
pub restricted-12_3 : restricted 2 3 ((1 ∷ 2 ∷ []) ∷ (3 ∷ []) ∷ []) ≡ (1 ∷ []) ∷ (2 ∷ []) ∷ []
restricted-12_3 = refl
