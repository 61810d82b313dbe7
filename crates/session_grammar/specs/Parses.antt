-- What lexemes are: a statement, or the place of the first that begins none.
use Rattle.std.specs.Prelude.{◌≡◌, ℕ, ◌≤◌, List, [], ◌∷◌, ◌++◌, Option, Some, None, length, take, slice_get}
use Rattle.session_grammar.specs.declared.expression.Statement.{Statement}
use Rattle.session_tokens.specs.declared.lexeme.Lexeme.{Lexeme}
use Rattle.session_grammar.specs.declared.parsed.Parsed.{Parsed}
use Rattle.session_grammar.specs.Grammar.{IsStatement}
use Rattle.session_grammar.specs.declared.parsed.Parsed.TheVariants as parsed

-- the lexemes are this statement, and no other
pub record IsOnlyStatement (ls : List Lexeme) (s : Statement) : Type 0 where
  pub is : IsStatement ls s
  pub only : (other : Statement) → IsStatement ls other → s ≡ other

-- some statement begins with these lexemes
abbrev pub Begins : List Lexeme → Type 0
Begins ls = (more : List Lexeme) × (s : Statement) × IsStatement (ls ++ more) s

-- no statement begins with what stands before a lexeme, and with it; where that lexeme is the end of the text, they are no statement
abbrev pub BeginsNone : List Lexeme → List Lexeme → Option Lexeme → Type 0
BeginsNone ls front (Some t) = Begins (front ++ t ∷ []) → ⊥
BeginsNone ls front None = (s : Statement) → IsStatement ls s → ⊥

-- the lexeme at k, or the end of the text, is the first for which no statement begins with the lexemes up to and with it
pub record IsFirstBad (ls : List Lexeme) (k : ℕ) : Type 0 where
  pub within : k ≤ length ls
  pub before : Begins (take k ls)
  pub with_it : BeginsNone ls (take k ls) (slice_get ls k)

-- the lexemes are this statement alone, or this is the first that begins none
abbrev pub IsParsed : List Lexeme → Parsed → Type 0
IsParsed ls (parsed.Read s) = IsOnlyStatement ls s
IsParsed ls (parsed.Stops k) = IsFirstBad ls k
