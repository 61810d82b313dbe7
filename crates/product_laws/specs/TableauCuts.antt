-- The code of a standard tableau, cut after some of its numbers.
use Rattle.std.specs.Prelude.{◌≡◌, ℕ, suc, [], ◌∷◌, length, take, refl}
use Rattle.realisations.specs.Codes.{Code}
use Rattle.realisations.specs.IndexKinds.{IsTableauCode}
use Rattle.realisations.specs.Tableaux.{rows_of, tableau_code}
use Rattle.tableau_laws.specs.Intervals.{restricted}

-- the code of the restriction of a tableau to the numbers past n
abbrev pub back_tableau : ℕ → Code → Code
back_tableau n code = tableau_code (restricted (suc n) (length code) (rows_of code))

-- the code of a standard tableau whose first numbers form the tableau of a, and whose others, restricted to them, that of b: the rows of its first numbers are those of a (Poirier, Reutenauer 1995)
pub record IsTableauProduct (a b code : Code) : Type 0 where
  pub tableau : IsTableauCode code
  pub front : take (length a) code ≡ a
  pub back : back_tableau (length a) code ≡ b

-- the numbers past 1 of the tableau with the rows 1 3 and 2 are in order 2, 3 in its reading word 213, so they form one row
pub back_tableau-121 : back_tableau 1 (1 ∷ 2 ∷ 1 ∷ []) ≡ 1 ∷ 1 ∷ []
back_tableau-121 = refl

-- and those of the tableau with the rows 1 2 and 3 two
pub back_tableau-112 : back_tableau 1 (1 ∷ 1 ∷ 2 ∷ []) ≡ 1 ∷ 2 ∷ []
back_tableau-112 = refl
