-- Indices of the bases, by their codes, and their degrees.
use Rattle.std.specs.Prelude.{ℕ, ◌+◌, List, [], ◌∷◌}
use Rattle.basis_names.specs.declared.bases.BasisId.{BasisId}
use Rattle.realisations.specs.Codes.{Code, Key}
use Rattle.realisations.specs.IndexKinds.{IsOfKind, degree_by}
use Rattle.realisations.specs.Bases.{index_kind_of}

-- the code is that of an index of the basis
abbrev pub IsIndex : BasisId → Code → Type 0
IsIndex basis code = IsOfKind (index_kind_of basis) code

-- the degree of an index
abbrev pub degree_of : BasisId → Code → ℕ
degree_of basis code = degree_by (index_kind_of basis) code

-- each code of a key is that of an index of its basis
abbrev pub AreIndices : List BasisId → Key → Type 0
AreIndices [] [] = Unit {0}
AreIndices [] (code ∷ key) = ⊥
AreIndices (basis ∷ bases) [] = ⊥
AreIndices (basis ∷ bases) (code ∷ key) = IsIndex basis code × AreIndices bases key

-- the sum of the degrees of the codes of a key
abbrev pub total_degree : List BasisId → Key → ℕ
total_degree [] key = 0
total_degree (basis ∷ bases) [] = 0
total_degree (basis ∷ bases) (code ∷ key) = degree_of basis code + total_degree bases key
