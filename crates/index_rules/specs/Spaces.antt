-- Bases up to the degree limit of their algebra, and classes of points.
use Rattle.std.specs.Prelude.{◌≡◌, ℕ, ◌≤◌, length}
use Rattle.std.specs.List.{sum}
use Rattle.basis_names.specs.Bases.{algebra_of, limit_of}
use Rattle.basis_names.specs.declared.bases.BasisId.{BasisId}
use Rattle.basis_representatives.specs.Representatives.{IsRepresentative}
use Rattle.realisations.specs.Bases.{kind_of, representative}
use Rattle.realisations.specs.Codes.{Code}
use Rattle.realisations.specs.Indices.{IsIndex, degree_of}
use Rattle.realisations.specs.Points.{Kind, exponents, word, Point}

-- the greatest degree of the elements of a basis: that of its algebra
abbrev pub limit_for : BasisId → ℕ
limit_for basis = limit_of (algebra_of basis)

-- the code is that of an index of the basis, within the limit
pub record IsIndexWithin (basis : BasisId) (code : Code) : Type 0 where
  pub index : IsIndex basis code
  pub degree : degree_of basis code ≤ limit_for basis

-- the degree of a point: that of the monomial, or the length of the word
abbrev pub degree_at : Kind → Point → ℕ
degree_at exponents p = sum p
degree_at word p = length p

-- the class of a point: the index of the degree of the point whose element occurs there, while no other one does
pub record IsClass (basis : BasisId) (p : Point) (index : Code) : Type 0 where
  pub index_of : IsIndex basis index
  pub degree : degree_of basis index ≡ degree_at (kind_of basis) p
  pub occurs_alone : IsRepresentative basis index p

-- the class of the representative of an index is the index, in every basis whose points have classes
abbrev pub ClassLaw : Type 0
ClassLaw = (basis : BasisId) (index class : Code) → IsIndex basis index → IsClass basis (representative basis index) class → class ≡ index
