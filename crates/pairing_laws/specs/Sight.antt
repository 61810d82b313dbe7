-- What a reading of one point sees of it, and up to which degree it is not 0.
use Rattle.std.specs.Prelude.{◌≡◌, ℕ, ◌<◌, ◌≤◌, pos, [], ◌∷◌, length}
use Rattle.std.specs.List.{sum}
use Rattle.basis_names.specs.declared.bases.BasisId.{BasisId}
use Rattle.realisations.specs.Codes.{Key}
use Rattle.realisations.specs.Combinations.{HasKey}
use Rattle.realisations.specs.Indices.{AreIndices, total_degree}
use Rattle.realisations.specs.Points.{Kind, exponents, word, Point}
use Rattle.realisations.specs.Readings.{Terms, Reading, kinds_of, numerator}

-- it sees of a point what a function tells: elements of FQSym, and of what lies in it, see of a word its standardisation; those of NCSF its descent composition; those of QSym the exponents that are not 0
pub record Sees (kind : Kind) (tells : Point → Point) (a : Reading) : Type 0 where
  pub kinds : kinds_of a ≡ kind ∷ []
  pub same : (p q : Point) → tells p ≡ tells q → numerator a (p ∷ []) ≡ numerator a (q ∷ [])

-- the degree of a point: the length of a word, or the sum of exponents
abbrev pub degree_of_point : Kind → Point → ℕ
degree_of_point exponents p = sum p
degree_of_point word p = length p

-- it is 0 at all points of a degree past n
pub record IsUpTo (n : ℕ) (kind : Kind) (a : Reading) : Type 0 where
  pub kinds : kinds_of a ≡ kind ∷ []
  pub past : (p : Point) → n < degree_of_point kind p → numerator a (p ∷ []) ≡ pos 0

-- terms with indices of a basis, of degrees up to n
pub record AreUpTo (n : ℕ) (basis : BasisId) (ts : Terms) : Type 0 where
  pub indices : (key : Key) → HasKey ts key → AreIndices (basis ∷ []) key
  pub degrees : (key : Key) → HasKey ts key → total_degree (basis ∷ []) key ≤ n
