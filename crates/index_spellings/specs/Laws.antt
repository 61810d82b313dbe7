-- Laws of spelled indices. Public functions with empty bodies ensure them (`src/laws.rt`).
use Rattle.std.specs.Prelude.{◌≡◌, ◌≤◌, List, ◌∷◌, ◌++◌, Some}
use Rattle.basis_names.specs.declared.bases.BasisId.{BasisId}
use Rattle.basis_names.specs.Bases.{algebra_of, limit_of, name_of}
use Rattle.realisations.specs.Bases.{index_kind_of}
use Rattle.realisations.specs.Codes.{Code}
use Rattle.realisations.specs.Indices.{IsIndex, degree_of}
use Rattle.session_grammar.specs.Grammar.{IsList, inside}
use Rattle.session_tokens.specs.declared.lexeme.Lexeme.{Lexeme}
use Rattle.session_tokens.specs.declared.lexeme.Lexeme.TheVariants as lex
use Rattle.session_tokens.specs.declared.token.Token.{Token}
use Rattle.session_tokens.specs.Lexemes.{lexemes_of}
use Rattle.session_tokens.specs.Tokens.{AreTokens}
use Rattle.index_spellings.specs.Indices.{index_in}
use Rattle.index_spellings.specs.Spellings.{items_by, list_with}
use Rattle.index_spellings.specs.Texts.{index_spelling}

-- an index of a basis, of a degree within the limit of its algebra
abbrev pub IsWithinLimit : BasisId → Code → Type 0
IsWithinLimit basis code = IsIndex basis code × (degree_of basis code ≤ limit_of (algebra_of basis))

-- each index of a basis within the limit of its algebra is read back from the items of its spelling, and lists spell no others; the items are a list of the grammar, which ends at the bracket behind them
pub record SpellingLaw : Type 0 where
  pub read_back : (basis : BasisId) (code : Code) → IsWithinLimit basis code → index_in basis (items_by (index_kind_of basis) code) ≡ Some code
  pub index : (basis : BasisId) (items : List Lexeme) (code : Code) → index_in basis items ≡ Some code → IsWithinLimit basis code
  pub is_list : (basis : BasisId) (code : Code) (ts : List Lexeme) → IsList (items_by (index_kind_of basis) code ++ lex.RightBracket ∷ ts) ts
  pub ends : (basis : BasisId) (code : Code) (ts : List Lexeme) → inside 0 (items_by (index_kind_of basis) code ++ lex.RightBracket ∷ ts) ≡ items_by (index_kind_of basis) code

-- the text of the element of a basis with an index within the limit has tokens that stand for the basis and for the list that spells the index
abbrev pub ElementTextLaw : Type 0
ElementTextLaw = (basis : BasisId) (code : Code) → IsWithinLimit basis code → (tokens : List Token) → AreTokens 1 (name_of basis ++ index_spelling (index_kind_of basis) code) tokens
    → lexemes_of (name_of basis ++ index_spelling (index_kind_of basis) code) tokens ≡ lex.Basis basis ∷ list_with (items_by (index_kind_of basis) code)
