-- What a text is: the statement of the grammar, or what is refused in it first.
use Rattle.std.specs.Prelude.{◌≡◌, ℕ, ◌+◌, true, false, List, ◌∷◌, Option, Some, None, Result, Ok, Err, slice_get}
use Rattle.session_grammar.specs.declared.expression.Statement.{Statement}
use Rattle.session_reading.specs.declared.fault.GrammarFault.{GrammarFault}
use Rattle.session_tokens.specs.declared.lexeme.Lexeme.{Lexeme}
use Rattle.session_reading.specs.declared.parsing.Flaw.{Flaw}
use Rattle.session_tokens.specs.declared.token.Token.{Token}
use Rattle.built_forms.specs.Forms.{begins_unbuilt}
use Rattle.index_spellings.specs.Indices.{begins_bad_list}
use Rattle.session_grammar.specs.Grammar.{IsStatement}
use Rattle.session_grammar.specs.Parses.{IsOnlyStatement, IsFirstBad}
use Rattle.session_tokens.specs.Lexemes.{lexemes_of}
use Rattle.session_tokens.specs.Tokens.{AreTokens}
use Rattle.session_tokens.specs.Words.{word_of}
use Rattle.session_reading.specs.Faults.{opens_past_64, begins_large, IsUnseen, IsFirstSeen}
use Rattle.session_reading.specs.declared.fault.GrammarFault.TheVariants as fault
use Rattle.session_tokens.specs.declared.lexeme.Lexeme.TheVariants as lex
use Rattle.session_reading.specs.declared.parsing.Flaw.TheVariants as flaw

-- the reserved word, or the name of a basis, before `:=`
abbrev pub reserved_name : List Lexeme → Option (List ℕ)
reserved_name (lex.Name w ∷ ts) = None
reserved_name (t ∷ lex.Assign ∷ ts) = word_of t
reserved_name _ = None

-- what is refused first in a statement, in this order; places count lexemes from 0, and a list stands behind the name of its basis
pub data IsFlawOfStatement (ls : List Lexeme) : Flaw → Type 0 where
  large_number : {k : ℕ} → IsFirstSeen begins_large ls k → IsFlawOfStatement ls (flaw.LargeNumber k)
  reserved : {w : List ℕ} → IsUnseen begins_large ls → reserved_name ls ≡ Some w → IsFlawOfStatement ls (flaw.ReservedName w)
  not_built : {k : ℕ} → IsUnseen begins_large ls → reserved_name ls ≡ None → IsFirstSeen begins_unbuilt ls k → IsFlawOfStatement ls flaw.NotBuilt
  bad_list : {k : ℕ} → IsUnseen begins_large ls → reserved_name ls ≡ None → IsUnseen begins_unbuilt ls → IsFirstSeen begins_bad_list ls k → IsFlawOfStatement ls (flaw.BadList (k + 1))

-- nothing is refused in a statement
pub record IsFlawless (ls : List Lexeme) : Type 0 where
  pub small : IsUnseen begins_large ls
  pub unreserved : reserved_name ls ≡ None
  pub built : IsUnseen begins_unbuilt ls
  pub indices : IsUnseen begins_bad_list ls

-- what is refused first in lexemes
pub data IsFlaw (ls : List Lexeme) : Flaw → Type 0 where
  too_deep : opens_past_64 0 ls ≡ true → IsFlaw ls flaw.TooDeep
  no_statement : {k : ℕ} → opens_past_64 0 ls ≡ false → IsFirstBad ls k → IsFlaw ls (flaw.Syntax k)
  in_statement : {s : Statement} {f : Flaw} → opens_past_64 0 ls ≡ false → IsStatement ls s → IsFlawOfStatement ls f → IsFlaw ls f

-- the lexemes are a statement in which nothing is refused
pub record IsSound (ls : List Lexeme) (s : Statement) : Type 0 where
  pub shallow : opens_past_64 0 ls ≡ false
  pub statement : IsOnlyStatement ls s
  pub flawless : IsFlawless ls

-- the place in the text of the token at k
abbrev pub place_of_token : Option Token → ℕ
place_of_token None = 0
place_of_token (Some t) = t.place

abbrev pub place_at : List Token → ℕ → ℕ
place_at tokens k = place_of_token (slice_get tokens k)

-- the fault that tells of it
abbrev pub fault_at : List Token → Flaw → GrammarFault
fault_at tokens flaw.TooDeep = fault.TooDeep
fault_at tokens (flaw.Syntax k) = fault.Syntax (place_at tokens k)
fault_at tokens (flaw.LargeNumber k) = fault.Number (place_at tokens k)
fault_at tokens (flaw.ReservedName w) = fault.ReservedName w
fault_at tokens flaw.NotBuilt = fault.NotBuilt
fault_at tokens (flaw.BadList k) = fault.BadIndex (place_at tokens k)

-- a text with these tokens is refused for this
abbrev pub IsRefused : List ℕ → List Token → GrammarFault → Type 0
IsRefused text tokens f = (w : Flaw) × IsFlaw (lexemes_of text tokens) w × (f ≡ fault_at tokens w)

-- the answer on a text with these tokens
abbrev pub Answers : List ℕ → List Token → Result Statement GrammarFault → Type 0
Answers text tokens (Ok s) = IsSound (lexemes_of text tokens) s
Answers text tokens (Err f) = IsRefused text tokens f

-- the answer on a text, where memory suffices: its tokens are these alone, and they decide
pub record IsAnswer (text : List ℕ) (answer : Result Statement GrammarFault) : Type 0 where
  pub tokens : List Token
  pub are : AreTokens 1 text tokens
  pub answers : Answers text tokens answer

-- the answer on a text; memory may run out at any text
pub data Parses (text : List ℕ) : Result Statement GrammarFault → Type 0 where
  no_memory : Parses text (Err fault.Memory)
  answered : {answer : Result Statement GrammarFault} → IsAnswer text answer → Parses text answer

-- Nothing below need be believed: it serves the private parts of `parse`.

abbrev pub Judges : List Lexeme → Result Statement Flaw → Type 0
Judges ls (Ok s) = IsSound ls s
Judges ls (Err f) = IsFlaw ls f
