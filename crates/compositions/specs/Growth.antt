-- Nothing here need be believed: how the code lists compositions. The public contracts speak of refinement and of degrees alone.
use Rattle.std.specs.Prelude.{ℕ, zero, suc, ◌+◌, ◌-◌, ◌≤◌, List, [], ◌∷◌, ◌++◌, map}
use Rattle.std.specs.List.{sum}
use Rattle.compositions.specs.declared.growth.Place.{Place}
use Rattle.compositions.specs.declared.growth.Place.TheVariants.{Cut, Joined, Free}
use Rattle.realisations.specs.Codes.{Code}
use Rattle.realisations.specs.Descents.{longer_first}
use Rattle.realisations.specs.IndexKinds.{IsComposition}

-- codes with one letter more in front: a part of its own, or one more in the first part, or first the ones and then the others
abbrev pub grown_codes : Place → List Code → List Code
grown_codes Cut codes = map (λ parts. 1 ∷ parts) codes
grown_codes Joined codes = map longer_first codes
grown_codes Free codes = map (λ parts. 1 ∷ parts) codes ++ map longer_first codes

-- with n letters more in front
abbrev pub grown_times : ℕ → Place → List Code → List Code
grown_times zero place codes = codes
grown_times (suc n) place codes = grown_codes place (grown_times n place codes)

-- the compositions of the size of a composition, by what they have between its parts and inside them
abbrev pub codes_over : Place → Place → List ℕ → List Code
codes_over between inside [] = [] ∷ []
codes_over between inside (i ∷ []) = grown_times (i - 1) inside ((1 ∷ []) ∷ [])
codes_over between inside (i ∷ j ∷ parts) = grown_times (i - 1) inside (grown_codes between (codes_over between inside (j ∷ parts)))

-- n letters fit in front of a code: it is a composition with a part, of a number that is at most 12 with n more
pub record CanGrowBy (n : ℕ) (parts : List ℕ) : Type 0 where
  pub positive : IsComposition parts
  pub some : 1 ≤ sum parts
  pub room : sum parts + n ≤ 12
