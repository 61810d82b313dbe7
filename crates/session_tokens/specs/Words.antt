-- Words, and their spellings.
use Rattle.std.specs.Prelude.{ℕ, Bool, true, false, List, Option, Some, None, codes}
use Rattle.basis_names.specs.Bases.{name_of}
use Rattle.session_tokens.specs.declared.lexeme.Linear.{Linear}
use Rattle.session_tokens.specs.declared.lexeme.Lexeme.{Lexeme}
use Rattle.session_tokens.specs.declared.lexeme.Linear.TheVariants as map
use Rattle.session_tokens.specs.declared.lexeme.Lexeme.TheVariants as lex

-- the spelling of a linear function
abbrev pub name_of_map : Linear → List ℕ
name_of_map map.Coproduct = codes "coproduct"
name_of_map map.Antipode = codes "antipode"
name_of_map map.Counit = codes "counit"
name_of_map map.Mult = codes "mult"
name_of_map map.Commute = codes "commute"

-- the spelling of a name, a reserved word or a basis; other lexemes have none
abbrev pub word_of : Lexeme → Option (List ℕ)
word_of (lex.Name w) = Some w
word_of (lex.Reserved w) = Some w
word_of (lex.Basis b) = Some (name_of b)
word_of (lex.Linear f) = Some (name_of_map f)
word_of lex.Pair = Some (codes "pair")
word_of lex.Along = Some (codes "along")
word_of _ = None

-- whether there is a word
abbrev pub is_some : Option (List ℕ) → Bool
is_some None = false
is_some (Some w) = true

-- the lexeme is a word
abbrev pub is_word : Lexeme → Bool
is_word t = is_some (word_of t)
