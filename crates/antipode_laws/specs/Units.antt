-- Where the unit of an algebra reads 1: at the empty word, and at exponents that are all 0. And readings that do not see zeros among exponents.
use Rattle.std.specs.Prelude.{◌≡◌, ℕ, zero, suc, Bool, true, false, if◌then◌else◌, ℤ, pos, List, [], ◌∷◌}
use Rattle.realisations.specs.Exponents.{is_one, without_zeros}
use Rattle.realisations.specs.Points.{Kind, exponents, word, Point, Points}
use Rattle.realisations.specs.Readings.{Reading, applied, counit, kinds_of, numerator}
use Rattle.coproduct_rules.specs.Components.{without_at}

-- the unit reads 1 at the point
abbrev pub is_unit : Kind → Point → Bool
is_unit exponents p = is_one p
is_unit word [] = true
is_unit word (x ∷ w) = false

-- there is a point of component n, counted from 0, and the unit reads 1 there
abbrev pub is_unit_at : ℕ → List Kind → Points → Bool
is_unit_at zero (kind ∷ kinds) (p ∷ ps) = is_unit kind p
is_unit_at (suc n) (kind ∷ kinds) (p ∷ ps) = is_unit_at n kinds ps
is_unit_at _ _ _ = false

-- the counit of component n, and then the unit in its place
abbrev pub unit_of_counit : ℕ → Reading → Points → ℤ
unit_of_counit n a ps = if is_unit_at n (kinds_of a) ps then numerator (applied counit n a) (without_at n ps) else pos 0

-- the point without zeros among exponents
abbrev pub without_zeros_of : Kind → Point → Point
without_zeros_of exponents p = without_zeros p
without_zeros_of word p = p

-- the same of the point of component n
abbrev pub without_zeros_at : ℕ → List Kind → Points → Points
without_zeros_at zero (kind ∷ kinds) (p ∷ ps) = without_zeros_of kind p ∷ ps
without_zeros_at (suc n) (kind ∷ kinds) (p ∷ ps) = p ∷ without_zeros_at n kinds ps
without_zeros_at _ _ ps = ps

-- a reading does not see zeros among the exponents of component n
abbrev pub IgnoresZerosAt : ℕ → Reading → Type 0
IgnoresZerosAt n a = (ps : Points) → numerator a ps ≡ numerator a (without_zeros_at n (kinds_of a) ps)
