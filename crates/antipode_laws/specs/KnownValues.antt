-- Known values of antipodes, by evaluation. Each tells a reading from its twin.
use Rattle.std.specs.Prelude.{◌≡◌, pos, negsuc, [], ◌∷◌, refl}
use Rattle.basis_names.specs.declared.bases.BasisId.TheVariants.{QsymM, NcsfR, FqsymG}
use Rattle.realisations.specs.Readings.{applied, antipode, coproduct, mult, element, numerator}
use Rattle.realisations.specs.Combinations.{weighed}
use Rattle.antipode_laws.specs.Recursion.{recursion_part}
use Rattle.antipode_laws.specs.Units.{unit_of_counit}

-- the antipode of M of (2, 1) is M of (1, 2) and M of 3
pub antipode-M21_at_12 : numerator (applied antipode 0 (element QsymM (2 ∷ 1 ∷ []))) ((1 ∷ 2 ∷ []) ∷ []) ≡ pos 1
antipode-M21_at_12 = refl

pub antipode-M21_at_3 : numerator (applied antipode 0 (element QsymM (2 ∷ 1 ∷ []))) ((3 ∷ []) ∷ []) ≡ pos 1
antipode-M21_at_3 = refl

pub antipode-M21_at_21 : numerator (applied antipode 0 (element QsymM (2 ∷ 1 ∷ []))) ((2 ∷ 1 ∷ []) ∷ []) ≡ pos 0
antipode-M21_at_21 = refl

-- the antipode of R of (2, 1) is minus itself, and that of R of 2 is R of (1, 1)
pub antipode-R21 : numerator (applied antipode 0 (element NcsfR (2 ∷ 1 ∷ []))) ((1 ∷ 2 ∷ 1 ∷ []) ∷ []) ≡ negsuc 0
antipode-R21 = refl

pub antipode-R2 : numerator (applied antipode 0 (element NcsfR (2 ∷ []))) ((2 ∷ 1 ∷ []) ∷ []) ≡ pos 1
antipode-R2 = refl

-- the coproduct of M of 1, its antipode in the first component, and both multiplied: nothing is left; the unit is 1 at exponents 0, and M of 1 has counit 0
pub convolved-M1 : numerator (applied mult 0 (applied antipode 0 (applied coproduct 0 (element QsymM (1 ∷ []))))) ((1 ∷ []) ∷ []) ≡ pos 0
convolved-M1 = refl

pub unit-M : unit_of_counit 0 (element QsymM []) ((0 ∷ []) ∷ []) ≡ pos 1
unit-M = refl

pub unit-M1 : unit_of_counit 0 (element QsymM (1 ∷ [])) ((0 ∷ []) ∷ []) ≡ pos 0
unit-M1 = refl

-- the antipode of G of 312 is minus it, G of 1 times G of 21, G of 12 times G of 1, and minus the cube of G of 1: at 231 the last three occur, and at 312 the first and the last
pub antipode-G312_at_231 : numerator (applied antipode 0 (element FqsymG (3 ∷ 1 ∷ 2 ∷ []))) ((2 ∷ 3 ∷ 1 ∷ []) ∷ []) ≡ pos 1
antipode-G312_at_231 = refl

pub antipode-G312_at_312 : numerator (applied antipode 0 (element FqsymG (3 ∷ 1 ∷ 2 ∷ []))) ((3 ∷ 1 ∷ 2 ∷ []) ∷ []) ≡ negsuc 1
antipode-G312_at_312 = refl

-- the recursion for M of (2, 1) at (1, 2): M of 2 is minus its antipode, times M of 1 it has M of (1, 2), and the term with the empty code as its second adds nothing
pub recursion-M21 : weighed (recursion_part QsymM (1 ∷ 2 ∷ [])) ((pos 1, [] ∷ (2 ∷ 1 ∷ []) ∷ []) ∷ (pos 1, (2 ∷ []) ∷ (1 ∷ []) ∷ []) ∷ (pos 1, (2 ∷ 1 ∷ []) ∷ [] ∷ []) ∷ []) ≡ negsuc 0
recursion-M21 = refl
