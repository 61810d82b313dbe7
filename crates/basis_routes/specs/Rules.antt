-- Indices of a basis.
use Rattle.std.specs.Prelude.{◌≤◌, IsTrue}
use Rattle.basis_names.specs.declared.bases.BasisId.{BasisId}
use Rattle.basis_names.specs.Bases.{algebra_of, limit_of}
use Rattle.built_bases.specs.Table.{is_built}
use Rattle.realisations.specs.Codes.{Code}
use Rattle.realisations.specs.Indices.{IsIndex, degree_of}

-- an index of a built basis within the degree limit of its algebra
pub record IsIndexWithin (basis : BasisId) (code : Code) : Type 0 where
  pub built : IsTrue (is_built basis)
  pub index : IsIndex basis code
  pub degree : degree_of basis code ≤ limit_of (algebra_of basis)
