-- Every list of bytes has a transcript.
use Rattle.std.proofs.Common.{◌≡◌, ℕ, ◌≤◌, inl, inr, Bool, true, false, List, [], ◌∷◌, Result, Ok, Err, length, refl, arith}
use Rattle.std.specs.List.{slice_split}
use Rattle.std.proofs.lemmas.Bool.{cases_lt}
use Rattle.hopf_laws.specs.Values.{Expansion}
use Rattle.session_grammar.specs.declared.expression.Expr.{Expr}
use Rattle.session_grammar.specs.declared.expression.Statement.{Statement}
use Rattle.session_reading.specs.declared.fault.GrammarFault.{GrammarFault}
use Rattle.session_reading.specs.Parses.{IsAnswer}
use Rattle.session_reading.proofs.OneAnswer.{answer_exists}
use Rattle.value_texts.proofs.OneText.{text_exists}
use Rattle.hopf.specs.declared.statement.Outcome.{Outcome}
use Rattle.hopf.specs.declared.statement.Outcome.TheVariants.{Empty, Kept, Printed, Compared, Refused}
use Rattle.session_evaluation.specs.Built.{IsBuilt, IsBuiltStatement, nothing, printed as built_print, assigned as built_assignment, compared as built_equality}
use Rattle.session_evaluation.specs.Names.{Names, with_value, has_room_for, AreValues}
use Rattle.session_evaluation.specs.Evaluation.{Answer, Evaluates, Compares}
use Rattle.hopf.specs.Outcomes.{refused_as, Keeps, room, no_room, IsOutcomeOf, empty, printed, not_printed, kept, not_kept, compared, not_compared, IsOutcome, too_long, misread, read}
use Rattle.hopf.specs.Transcript.{is_end, is_none, trimmed, unfinished, AreOutcomes, IsScript}
use Rattle.hopf.proofs.BuiltStatements.{sound_built}
use Rattle.session_evaluation.proofs.Comparisons.{Comparison, comparison_exists, equality_meant}
use Rattle.session_evaluation.proofs.EvaluationsExist.{evaluation_exists}
use Rattle.session_evaluation.proofs.GoodAnswers.{evaluated_value}
use Rattle.session_evaluation.proofs.Meanings.{meant}
use Rattle.hopf.proofs.OneOutcome.{values_left}
use Rattle.hopf.proofs.OneTranscript.{FromPart}
use Rattle.session_grammar.specs.declared.expression.Statement.TheVariants as s
use Rattle.hopf.specs.declared.refusal.StatementRefusal.TheVariants as refusal

-- A statement that prints has an outcome.
print_exists : (names : Names) (x : Expr) (answer : Answer) → AreValues names → IsBuilt x → Evaluates names x answer → (o : Outcome) × (left : Names) × IsOutcomeOf names (s.Print x) o left
print_exists names x (Ok v) are built h = let text = text_exists v (evaluated_value names x v are built h) in (Printed text.0, names, printed h (meant names x v are h) text.1)
print_exists names x (Err r) are built h = (Refused (refused_as r), names, not_printed h)

-- A name is given a value, or not.
keep_exists : (names : Names) (name : List ℕ) (v : Expansion) (has : Bool) → has_room_for names name ≡ has → (o : Outcome) × (left : Names) × Keeps names name v o left
keep_exists names name v true h = (Kept, with_value names name v, room h)
keep_exists names name v false h = (Refused refusal.TooManyNames, names, no_room h)

-- An assignment has an outcome.
assignment_exists : (names : Names) (name : List ℕ) (x : Expr) (answer : Answer) → AreValues names → Evaluates names x answer → (o : Outcome) × (left : Names) × IsOutcomeOf names (s.Assign name x) o left
assignment_exists names name x (Ok v) are h =
    let keeps = keep_exists names name v (has_room_for names name) refl in (keeps.0, keeps.1, kept h (meant names x v are h) keeps.2)
assignment_exists names name x (Err r) are h = (Refused (refused_as r), names, not_kept h)

-- An equality has an outcome.
equality_exists : (names : Names) (x y : Expr) (answer : Comparison) → AreValues names → Compares names x y answer → (o : Outcome) × (left : Names) × IsOutcomeOf names (s.Equal x y) o left
equality_exists names x y (Ok same) are h = (Compared same, names, compared h (equality_meant names x y same are h))
equality_exists names x y (Err r) are h = (Refused (refused_as r), names, not_compared h)

-- A statement that is built has an outcome.
outcome_of_exists : (names : Names) (st : Statement) → AreValues names → IsBuiltStatement st → (o : Outcome) × (left : Names) × IsOutcomeOf names st o left
outcome_of_exists names st are nothing = (Empty, names, empty)
outcome_of_exists names st are (built_print {x = x} built) = let h = evaluation_exists names x are built in print_exists names x h.0 are built h.1
outcome_of_exists names st are (built_assignment {name = name} {x = x} built) = let h = evaluation_exists names x are built in assignment_exists names name x h.0 are h.1
outcome_of_exists names st are (built_equality {x = x} {y = y} first second) = let h = comparison_exists names are x y first second in equality_exists names x y h.0 are h.1

from_answer : (names : Names) (text : List ℕ) (answer : Result Statement GrammarFault) → AreValues names → length text ≤ 65536 → IsAnswer text answer → (o : Outcome) × (left : Names) × IsOutcome names text o left
from_answer names text (Ok st) are short h = let is = outcome_of_exists names st are (sound_built _ st h.answers) in (is.0, is.1, read short h is.2)
from_answer names text (Err f) are short h = (Refused (refusal.Grammar f), names, misread short h)

-- Every text has an outcome.
outcome_exists : (names : Names) (text : List ℕ) → AreValues names → (o : Outcome) × (left : Names) × IsOutcome names text o left
outcome_exists names text are =
    elim (cases_lt 65536 (length text)) [
      | inl long ↦ (Refused refusal.TooLong, names, too_long long)
      | inr short ↦ let h = answer_exists text in from_answer names text h.0 are (omega (arith, short)) h.1
    ]

from_part_exists : (names : Names) (part : List ℕ) (parts : List (List ℕ)) (last : Bool) → AreValues names
    → ((next : Names) → AreValues next → (rest : List Outcome) × (left : Names) × AreOutcomes next parts rest left)
    → (os : List Outcome) × (left : Names) × FromPart names part parts last os left
from_part_exists names part parts true are later = (unfinished (trimmed part), names, (refl, refl))
from_part_exists names part parts false are later =
    let first = outcome_exists names (trimmed part) are in
    let rest = later first.1 (values_left names (trimmed part) first.0 first.1 are first.2) in
    (first.0 ∷ rest.0, rest.1, (first.0, first.1, rest.0, refl, first.2, rest.2))

outcomes_exist : (names : Names) (parts : List (List ℕ)) → AreValues names → (os : List Outcome) × (left : Names) × AreOutcomes names parts os left
outcomes_exist names [] are = ([], names, (refl, refl))
outcomes_exist names (part ∷ parts) are = from_part_exists names part parts (is_none parts) are (λ next are_next. outcomes_exist next parts are_next)

-- Every list of bytes has a transcript, and leaves names.
pub script_exists : (names : Names) (bytes : List ℕ) → AreValues names → (os : List Outcome) × (left : Names) × IsScript names bytes os left
script_exists names bytes are = outcomes_exist names (slice_split is_end bytes) are
