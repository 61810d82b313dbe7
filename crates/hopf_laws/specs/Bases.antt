-- The bases of a value: they are built, and their limits bound its degree.
use Rattle.std.specs.Prelude.{ℕ, min, IsTrue, List, [], ◌∷◌}
use Rattle.basis_names.specs.declared.bases.BasisId.{BasisId}
use Rattle.basis_names.specs.Bases.{algebra_of, limit_of}
use Rattle.built_bases.specs.Table.{is_built}

-- each basis is built
abbrev pub AreBuilt : List BasisId → Type 0
AreBuilt [] = Unit {0}
AreBuilt (basis ∷ bases) = IsTrue (is_built basis) × AreBuilt bases

-- the least of the limits of bases; a list without a basis, that of a scalar, has 0
abbrev pub least_limit : List BasisId → ℕ
least_limit [] = 0
least_limit (basis ∷ []) = limit_of (algebra_of basis)
least_limit (basis ∷ next ∷ bases) = min (limit_of (algebra_of basis)) (least_limit (next ∷ bases))
