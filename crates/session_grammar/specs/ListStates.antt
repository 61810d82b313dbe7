-- Nothing here need be believed: this is what the parser knows of a list that it is in, for the contracts of its private parts.
use Rattle.std.specs.Prelude.{ℕ, List}
use Rattle.basis_names.specs.declared.bases.BasisId.{BasisId}
use Rattle.session_grammar.specs.declared.expression.Expr.{Expr}
use Rattle.session_tokens.specs.declared.lexeme.Lexeme.{Lexeme}
use Rattle.session_grammar.specs.declared.expression.Expr.TheVariants as e

-- the basis before the list; how many lists are open inside it; and its lexemes so far, without its own brackets
pub record ListState : Type 0 where
  pub basis : BasisId
  pub depth : ℕ
  pub items : List Lexeme

abbrev pub listing : BasisId → ℕ → List Lexeme → ListState
listing b d items = record { basis = b; depth = d; items = items }

-- the element that a list spells
abbrev pub element_at : BasisId → List Lexeme → Expr
element_at b items = e.Element b items
