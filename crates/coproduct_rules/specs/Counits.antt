-- What a counit rule on indices answers.
use Rattle.std.specs.Prelude.{pos, [], ◌∷◌}
use Rattle.basis_names.specs.declared.bases.BasisId.{BasisId}
use Rattle.realisations.specs.Codes.{Code}
use Rattle.realisations.specs.Readings.{Terms, leaf, applied, counit, element, AgreeAt}

-- 1 for the empty index, and 0 for every other
abbrev pub counit_terms : Code → Terms
counit_terms [] = (pos 1, []) ∷ []
counit_terms (x ∷ code) = []

-- a scalar reads as the counit of the element
abbrev pub IsCounit : BasisId → Code → Terms → Type 0
IsCounit basis code terms = AgreeAt (leaf [] 1 terms) (applied counit 0 (element basis code)) []
