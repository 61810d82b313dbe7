-- A text has one outcome in names that stand for values, and leaves one list of them.
use Rattle.std.proofs.Common.{◌≡◌, ℕ, List, Bool, true, false, Ok, Err, Result, refl, sym, ◌∙◌, ap, subst, arith}
use Rattle.hopf_laws.specs.Values.{Expansion, IsValue}
use Rattle.session_grammar.specs.declared.expression.Expr.{Expr}
use Rattle.session_grammar.specs.declared.expression.Statement.{Statement}
use Rattle.session_reading.specs.declared.fault.GrammarFault.{GrammarFault}
use Rattle.session_reading.specs.Parses.{IsAnswer}
use Rattle.value_texts.specs.Text.{IsTextOf}
use Rattle.session_reading.proofs.OneAnswer.{answer_once}
use Rattle.value_texts.proofs.OneText.{text_once}
use Rattle.session_evaluation.specs.declared.refusal.EvaluationRefusal.{EvaluationRefusal}
use Rattle.hopf.specs.declared.statement.Outcome.{Outcome}
use Rattle.hopf.specs.declared.statement.Outcome.TheVariants.{Printed, Compared, Refused}
use Rattle.session_evaluation.specs.Built.{IsBuilt, IsBuiltStatement, printed as built_print, assigned as built_assignment, compared as built_equality}
use Rattle.session_evaluation.specs.Names.{Names, AreValues}
use Rattle.session_evaluation.specs.Evaluation.{Answer, Evaluates, Compares}
use Rattle.hopf.specs.Outcomes.{refused_as, Keeps, room, no_room, IsOutcomeOf, empty, printed, not_printed, kept, not_kept, compared, not_compared, IsOutcome, too_long, misread, read}
use Rattle.hopf.proofs.BuiltStatements.{sound_built}
use Rattle.session_evaluation.proofs.Comparisons.{Comparison, comparison_once}
use Rattle.session_evaluation.proofs.GoodAnswers.{evaluated_value}
use Rattle.session_evaluation.proofs.KnownNames.{values-with_value}
use Rattle.session_evaluation.proofs.OneEvaluation.{evaluation_once}
use Rattle.session_grammar.specs.declared.expression.Statement.TheVariants as s
use Rattle.hopf.specs.declared.refusal.StatementRefusal.TheVariants as refusal

same_value : (names : Names) (x : Expr) (v w : Expansion) → AreValues names → IsBuilt x → Evaluates names x (Ok v) → Evaluates names x (Ok w) → v ≡ w
same_value names x v w are built h k = let same : ◌≡◌ {A = Answer} (Ok v) (Ok w) = evaluation_once names x (Ok v) (Ok w) are built h k in cc

same_refusal : (names : Names) (x : Expr) (r q : EvaluationRefusal) → AreValues names → IsBuilt x → Evaluates names x (Err r) → Evaluates names x (Err q) → r ≡ q
same_refusal names x r q are built h k = let same : ◌≡◌ {A = Answer} (Err r) (Err q) = evaluation_once names x (Err r) (Err q) are built h k in cc

not_both : (names : Names) (x : Expr) (v : Expansion) (r : EvaluationRefusal) → AreValues names → IsBuilt x → Evaluates names x (Ok v) → Evaluates names x (Err r) → ⊥
not_both names x v r are built h k = let same : ◌≡◌ {A = Answer} (Ok v) (Err r) = evaluation_once names x (Ok v) (Err r) are built h k in absurd (cc)

same_text : (names : Names) (x : Expr) (v w : Expansion) (a b : List ℕ) → AreValues names → IsBuilt x → Evaluates names x (Ok v) → Evaluates names x (Ok w) → IsTextOf v a → IsTextOf w b → a ≡ b
same_text names x v w a b are built h k t u =
    text_once v a b (evaluated_value names x v are built h).canonical.lowest.positive t (subst (λ (z : Expansion). IsTextOf z b) (sym (same_value names x v w are built h k)) u)

-- a name is given a value in one way
keeps_once : (names : Names) (name : List ℕ) (v : Expansion) (o p : Outcome) (left left' : Names) → Keeps names name v o left → Keeps names name v p left' → (o ≡ p) × (left ≡ left')
keeps_once names name v o p left left' (room h) (room k) = (refl, refl)
keeps_once names name v o p left left' (room h) (no_room k) = let both : true ≡ false = sym h ∙ k in absurd (cc)
keeps_once names name v o p left left' (no_room h) (room k) = let both : true ≡ false = sym k ∙ h in absurd (cc)
keeps_once names name v o p left left' (no_room h) (no_room k) = (refl, refl)

-- what a built statement evaluates is built
print_built : (x : Expr) → IsBuiltStatement (s.Print x) → IsBuilt x
print_built x (built_print built) = built

assignment_built : (name : List ℕ) (x : Expr) → IsBuiltStatement (s.Assign name x) → IsBuilt x
assignment_built name x (built_assignment built) = built

equality_built : (x y : Expr) → IsBuiltStatement (s.Equal x y) → IsBuilt x × IsBuilt y
equality_built x y (built_equality first second) = (first, second)

-- an equality has one answer
same_truth : (names : Names) (x y : Expr) (p q : Bool) → AreValues names → IsBuiltStatement (s.Equal x y) → Compares names x y (Ok p) → Compares names x y (Ok q) → p ≡ q
same_truth names x y p q are built h k =
    let parts = equality_built x y built in
    let same : ◌≡◌ {A = Comparison} (Ok p) (Ok q) = comparison_once names are x y parts.0 parts.1 (Ok p) (Ok q) h k in cc

same_comparison : (names : Names) (x y : Expr) (r q : EvaluationRefusal) → AreValues names → IsBuiltStatement (s.Equal x y) → Compares names x y (Err r) → Compares names x y (Err q) → r ≡ q
same_comparison names x y r q are built h k =
    let parts = equality_built x y built in
    let same : ◌≡◌ {A = Comparison} (Err r) (Err q) = comparison_once names are x y parts.0 parts.1 (Err r) (Err q) h k in cc

truth_or_refusal : (names : Names) (x y : Expr) (p : Bool) (r : EvaluationRefusal) → AreValues names → IsBuiltStatement (s.Equal x y) → Compares names x y (Ok p) → Compares names x y (Err r) → ⊥
truth_or_refusal names x y p r are built h k =
    let parts = equality_built x y built in
    let same : ◌≡◌ {A = Comparison} (Ok p) (Err r) = comparison_once names are x y parts.0 parts.1 (Ok p) (Err r) h k in absurd (cc)

outcome_of_once : (names : Names) (st : Statement) (o p : Outcome) (left left' : Names) → AreValues names → IsBuiltStatement st → IsOutcomeOf names st o left → IsOutcomeOf names st p left' → (o ≡ p) × (left ≡ left')
outcome_of_once names st o p left left' are built empty empty = (refl, refl)
outcome_of_once names st o p left left' are built (printed {x = x} {v = v} {text = a} h m t) (printed {v = w} {text = b} k n u) = (ap Printed (same_text names x v w a b are (print_built x built) h k t u), refl)
outcome_of_once names st o p left left' are built (printed {x = x} {v = v} h m t) (not_printed {r = r} k) = absurd (not_both names x v r are (print_built x built) h k)
outcome_of_once names st o p left left' are built (not_printed {x = x} {r = r} k) (printed {v = v} h m t) = absurd (not_both names x v r are (print_built x built) h k)
outcome_of_once names st o p left left' are built (not_printed {x = x} {r = r} h) (not_printed {r = q} k) = (ap (λ (z : EvaluationRefusal). Refused (refused_as z)) (same_refusal names x r q are (print_built x built) h k), refl)
outcome_of_once names st o p left left' are built (kept {name = name} {x = x} {v = v} h m i) (kept {v = w} k n j) =
    keeps_once names name v o p left left' i (subst (λ (z : Expansion). Keeps names name z p left') (sym (same_value names x v w are (assignment_built name x built) h k)) j)
outcome_of_once names st o p left left' are built (kept {name = name} {x = x} {v = v} h m i) (not_kept {r = r} k) = absurd (not_both names x v r are (assignment_built name x built) h k)
outcome_of_once names st o p left left' are built (not_kept {name = name} {x = x} {r = r} k) (kept {v = v} h m i) = absurd (not_both names x v r are (assignment_built name x built) h k)
outcome_of_once names st o p left left' are built (not_kept {name = name} {x = x} {r = r} h) (not_kept {r = q} k) = (ap (λ (z : EvaluationRefusal). Refused (refused_as z)) (same_refusal names x r q are (assignment_built name x built) h k), refl)
outcome_of_once names st o p left left' are built (compared {x = x} {y = y} {same = t} h m) (compared {same = u} k n) = (ap (λ (b : Bool). Compared b) (same_truth names x y t u are built h k), refl)
outcome_of_once names st o p left left' are built (compared {x = x} {y = y} {same = t} h m) (not_compared {r = r} k) = absurd (truth_or_refusal names x y t r are built h k)
outcome_of_once names st o p left left' are built (not_compared {x = x} {y = y} {r = r} k) (compared {same = t} h m) = absurd (truth_or_refusal names x y t r are built h k)
outcome_of_once names st o p left left' are built (not_compared {x = x} {y = y} {r = r} h) (not_compared {r = q} k) = (ap (λ (z : EvaluationRefusal). Refused (refused_as z)) (same_comparison names x y r q are built h k), refl)

same_fault : (text : List ℕ) (f g : GrammarFault) → IsAnswer text (Err f) → IsAnswer text (Err g) → f ≡ g
same_fault text f g h k = let same : ◌≡◌ {A = Result Statement GrammarFault} (Err f) (Err g) = answer_once text (Err f) (Err g) h k in cc

same_statement : (text : List ℕ) (st su : Statement) → IsAnswer text (Ok st) → IsAnswer text (Ok su) → st ≡ su
same_statement text st su h k = let same : ◌≡◌ {A = Result Statement GrammarFault} (Ok st) (Ok su) = answer_once text (Ok st) (Ok su) h k in cc

read_or_misread : (text : List ℕ) (st : Statement) (f : GrammarFault) → IsAnswer text (Ok st) → IsAnswer text (Err f) → ⊥
read_or_misread text st f h k = let same : ◌≡◌ {A = Result Statement GrammarFault} (Ok st) (Err f) = answer_once text (Ok st) (Err f) h k in absurd (cc)

pub outcome_once : (names : Names) (text : List ℕ) (o p : Outcome) (left left' : Names) → AreValues names → IsOutcome names text o left → IsOutcome names text p left' → (o ≡ p) × (left ≡ left')
outcome_once names text o p left left' are (too_long long) (too_long long') = (refl, refl)
outcome_once names text o p left left' are (too_long long) (misread short k) = absurd (omega (arith, long, short))
outcome_once names text o p left left' are (too_long long) (read short k j) = absurd (omega (arith, long, short))
outcome_once names text o p left left' are (misread short h) (too_long long) = absurd (omega (arith, long, short))
outcome_once names text o p left left' are (misread {f = f} short h) (misread {f = g} short' k) = (ap (λ (x : GrammarFault). Refused (refusal.Grammar x)) (same_fault text f g h k), refl)
outcome_once names text o p left left' are (misread {f = f} short h) (read {st = st} short' k j) = absurd (read_or_misread text st f k h)
outcome_once names text o p left left' are (read short h i) (too_long long) = absurd (omega (arith, long, short))
outcome_once names text o p left left' are (read {st = st} short h i) (misread {f = f} short' k) = absurd (read_or_misread text st f h k)
outcome_once names text o p left left' are (read {st = st} short h i) (read {st = su} short' k j) =
    outcome_of_once names st o p left left' are (sound_built _ st h.answers) i (subst (λ (z : Statement). IsOutcomeOf names z p left') (sym (same_statement text st su h k)) j)

-- what an outcome leaves stands for values
keeps_values : (names : Names) (name : List ℕ) (v : Expansion) (o : Outcome) (left : Names) → AreValues names → IsValue v → Keeps names name v o left → AreValues left
keeps_values names name v o left are is (room h) = values-with_value names name v are is
keeps_values names name v o left are is (no_room h) = are

built_assigned : (names : Names) (name : List ℕ) (x : Expr) (v : Expansion) → AreValues names → IsBuiltStatement (s.Assign name x) → Evaluates names x (Ok v) → IsValue v
built_assigned names name x v are built h = evaluated_value names x v are (assignment_built name x built) h

left_values : (names : Names) (st : Statement) (o : Outcome) (left : Names) → AreValues names → IsBuiltStatement st → IsOutcomeOf names st o left → AreValues left
left_values names st o left are built empty = are
left_values names st o left are built (printed h m t) = are
left_values names st o left are built (not_printed h) = are
left_values names st o left are built (kept {name = name} {x = x} {v = v} h m i) = keeps_values names name v o left are (built_assigned names name x v are built h) i
left_values names st o left are built (not_kept h) = are
left_values names st o left are built (compared h m) = are
left_values names st o left are built (not_compared h) = are

pub values_left : (names : Names) (text : List ℕ) (o : Outcome) (left : Names) → AreValues names → IsOutcome names text o left → AreValues left
values_left names text o left are (too_long long) = are
values_left names text o left are (misread short h) = are
values_left names text o left are (read {st = st} short h i) = left_values names st o left are (sound_built _ st h.answers) i
