-- The law of reading back: the text of a value, read as a statement, is that value again.
use Rattle.std.specs.Prelude.{ℕ, List, [], ◌∷◌, Ok}
use Rattle.realisations.specs.Readings.{Terms}
use Rattle.hopf_laws.specs.Values.{Expansion, IsValue}
use Rattle.session_grammar.specs.declared.expression.Expr.{Expr}
use Rattle.session_grammar.specs.declared.expression.Statement.TheVariants as s
use Rattle.session_reading.specs.Parses.{IsAnswer}
use Rattle.session_evaluation.specs.Evaluation.{Evaluates, number_value}
use Rattle.session_evaluation.specs.Names.{Names}
use Rattle.value_texts.specs.Text.{IsTextOf}

-- what the text of a value tells: the value, or, where it has no terms, the scalar 0, since `0` tells no bases
abbrev pub told_by : Terms → Expansion → Expansion
told_by [] v = number_value 0
told_by (t ∷ ts) v = v

abbrev pub told_value : Expansion → Expansion
told_value v = told_by v.combination.terms v

-- a text is a sum in which nothing is refused, the sum comes to this value, and the text is that of the value
pub record IsReadBack (names : Names) (text : List ℕ) (v : Expansion) : Type 0 where
  pub expression : Expr
  pub answer : IsAnswer text (Ok (s.Print expression))
  pub evaluates : Evaluates names expression (Ok v)
  pub same_text : IsTextOf v text

-- in all names, each text of a value is read back
abbrev pub ReadBackLaw : Type 0
ReadBackLaw = (names : Names) (v : Expansion) (text : List ℕ) → IsValue v → IsTextOf v text → IsReadBack names text (told_value v)
