-- Basis elements, by the basis and the items of a list.
use Rattle.std.specs.Prelude.{◌≡◌, IsTrue, List, Some}
use Rattle.realisations.specs.Codes.{Code}
use Rattle.basis_names.specs.declared.bases.BasisId.{BasisId}
use Rattle.built_bases.specs.Table.{is_built}
use Rattle.session_tokens.specs.declared.lexeme.Lexeme.{Lexeme}
use Rattle.index_spellings.specs.Indices.{index_in}

-- the basis is built, and the items of a list spell an index of it within the limit of its algebra
pub record Spells (basis : BasisId) (items : List Lexeme) (code : Code) : Type 0 where
  pub built : IsTrue (is_built basis)
  pub spelled : index_in basis items ≡ Some code

-- they spell some index
abbrev pub IsSpelled : BasisId → List Lexeme → Type 0
IsSpelled basis items = (code : Code) × Spells basis items code
