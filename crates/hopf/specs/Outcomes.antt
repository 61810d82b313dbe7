-- What a statement comes to, by cases, what it does to the names, and the line that it prints.
use Rattle.std.specs.Prelude.{◌≡◌, ℕ, ◌<◌, ◌≤◌, List, [], ◌∷◌, ◌++◌, Bool, true, false, Ok, Err, length, codes}
use Rattle.hopf_laws.specs.Values.{Expansion}
use Rattle.session_grammar.specs.declared.expression.Expr.{Expr}
use Rattle.session_grammar.specs.declared.expression.Statement.{Statement}
use Rattle.session_reading.specs.declared.fault.GrammarFault.{GrammarFault}
use Rattle.session_reading.specs.Parses.{IsAnswer}
use Rattle.value_texts.specs.Text.{IsTextOf}
use Rattle.session_evaluation.specs.declared.refusal.EvaluationRefusal.{EvaluationRefusal}
use Rattle.hopf.specs.declared.refusal.StatementRefusal.{StatementRefusal}
use Rattle.hopf.specs.declared.statement.Outcome.{Outcome}
use Rattle.hopf.specs.declared.statement.Outcome.TheVariants.{Empty, Kept, Printed, Compared, Refused}
use Rattle.session_evaluation.specs.Names.{Names, with_value, has_room_for}
use Rattle.session_evaluation.specs.Evaluation.{Evaluates, Compares}
use Rattle.session_evaluation.specs.Meaning.{IsMeant, TellsSame}
use Rattle.hopf.specs.Refusals.{refusal_line}
use Rattle.session_grammar.specs.declared.expression.Statement.TheVariants as s
use Rattle.session_evaluation.specs.declared.refusal.EvaluationRefusal.TheVariants as evaluation
use Rattle.hopf.specs.declared.refusal.StatementRefusal.TheVariants as refusal

-- the refusal of a statement whose expression has no value
abbrev pub refused_as : EvaluationRefusal → StatementRefusal
refused_as (evaluation.UnknownName name) = refusal.UnknownName name
refused_as (evaluation.Value r) = refusal.Value r

-- a name is given a value where there is room for it, and else refused
pub data Keeps (names : Names) (name : List ℕ) (v : Expansion) : Outcome → Names → Type 0 where
  room : has_room_for names name ≡ true → Keeps names name v Kept (with_value names name v)
  no_room : has_room_for names name ≡ false → Keeps names name v (Refused refusal.TooManyNames) names

-- what a statement comes to in names, and the names after it; a refused statement leaves them
pub data IsOutcomeOf (names : Names) : Statement → Outcome → Names → Type 0 where
  -- the empty statement prints nothing
  empty : IsOutcomeOf names s.Empty Empty names
  -- a sum prints the text of its value, which reads as the sum means
  printed : {x : Expr} {v : Expansion} {text : List ℕ} → Evaluates names x (Ok v) → IsMeant names x v → IsTextOf v text
      → IsOutcomeOf names (s.Print x) (Printed text) names
  -- or it is refused
  not_printed : {x : Expr} {r : EvaluationRefusal} → Evaluates names x (Err r) → IsOutcomeOf names (s.Print x) (Refused (refused_as r)) names
  -- an assignment gives its name the value, and prints nothing; or the name would be one too many
  kept : {name : List ℕ} {x : Expr} {v : Expansion} {outcome : Outcome} {left : Names} → Evaluates names x (Ok v) → IsMeant names x v → Keeps names name v outcome left
      → IsOutcomeOf names (s.Assign name x) outcome left
  -- or the sum is refused
  not_kept : {name : List ℕ} {x : Expr} {r : EvaluationRefusal} → Evaluates names x (Err r) → IsOutcomeOf names (s.Assign name x) (Refused (refused_as r)) names
  -- an equality prints whether both of its sums mean the same
  compared : {x y : Expr} {same : Bool} → Compares names x y (Ok same) → TellsSame names x y same → IsOutcomeOf names (s.Equal x y) (Compared same) names
  -- or it is refused
  not_compared : {x y : Expr} {r : EvaluationRefusal} → Compares names x y (Err r) → IsOutcomeOf names (s.Equal x y) (Refused (refused_as r)) names

-- the outcome of the text of a statement whose `;` came, and the names after it
pub data IsOutcome (names : Names) (text : List ℕ) : Outcome → Names → Type 0 where
  too_long : 65536 < length text → IsOutcome names text (Refused refusal.TooLong) names
  misread : {f : GrammarFault} → length text ≤ 65536 → IsAnswer text (Err f) → IsOutcome names text (Refused (refusal.Grammar f)) names
  read : {st : Statement} {outcome : Outcome} {left : Names} → length text ≤ 65536 → IsAnswer text (Ok st) → IsOutcomeOf names st outcome left
      → IsOutcome names text outcome left

-- the text of what an equality tells
abbrev pub truth_text : Bool → List ℕ
truth_text true = codes "true"
truth_text false = codes "false"

-- the line of the statement with this number, or nothing
abbrev pub line_of : ℕ → Outcome → List ℕ
line_of k Empty = []
line_of k Kept = []
line_of k (Printed text) = text ++ 10 ∷ []
line_of k (Compared same) = truth_text same ++ 10 ∷ []
line_of k (Refused r) = refusal_line k r

-- the outcome is a printed value, or what an equality tells
abbrev pub is_printed : Outcome → Bool
is_printed (Printed text) = true
is_printed (Compared same) = true
is_printed _ = false

-- the outcome is a refusal
abbrev pub is_refusal : Outcome → Bool
is_refusal (Refused r) = true
is_refusal _ = false
