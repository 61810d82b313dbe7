-- Every list of bytes has one transcript.
use Rattle.std.proofs.Common.{◌≡◌, ℕ, List, [], ◌∷◌, Bool, true, false, MatchBool, sym, ◌∙◌, subst}
use Rattle.std.specs.List.{slice_split}
use Rattle.hopf.specs.declared.statement.Outcome.{Outcome}
use Rattle.session_evaluation.specs.Names.{Names, AreValues}
use Rattle.hopf.specs.Outcomes.{IsOutcome}
use Rattle.hopf.specs.Transcript.{AreOutcomes, IsScript, is_end, is_none, trimmed, unfinished}
use Rattle.hopf.proofs.OneOutcome.{outcome_once, values_left}

-- the outcomes from a part on, by whether it is the last
abbrev pub FromPart : Names → List ℕ → List (List ℕ) → Bool → List Outcome → Names → Type 0
FromPart names part parts last os left = MatchBool last ((os ≡ unfinished (trimmed part)) × (left ≡ names))
    ((outcome : Outcome) × (next : Names) × (rest : List Outcome) × (os ≡ outcome ∷ rest) × IsOutcome names (trimmed part) outcome next × AreOutcomes next parts rest left)

-- one step, where the rest is determined
by_last : (names : Names) (part : List ℕ) (parts : List (List ℕ)) (last : Bool) (os os' : List Outcome) (left left' : Names) → AreValues names
    → ((next : Names) (rest rest' : List Outcome) → AreValues next → AreOutcomes next parts rest left → AreOutcomes next parts rest' left' → (rest ≡ rest') × (left ≡ left'))
    → FromPart names part parts last os left → FromPart names part parts last os' left' → (os ≡ os') × (left ≡ left')
by_last names part parts true os os' left left' are once h k = (h.0 ∙ sym k.0, h.1 ∙ sym k.1)
by_last names part parts false os os' left left' are once (o, next, rest, all, is, more) (o', next', rest', all', is', more') =
    let same = outcome_once names (trimmed part) o o' next next' are is is' in
    let later = once next rest rest' (values_left names (trimmed part) o next are is) more (subst (λ (n : Names). AreOutcomes n parts rest' left') (sym same.1) more') in
    let first : o ≡ o' = same.0 in
    let behind : rest ≡ rest' = later.0 in
    (cc, later.1)

outcomes_once : (names : Names) (parts : List (List ℕ)) (os os' : List Outcome) (left left' : Names) → AreValues names → AreOutcomes names parts os left → AreOutcomes names parts os' left'
    → (os ≡ os') × (left ≡ left')
outcomes_once names [] os os' left left' are h k = (h.0 ∙ sym k.0, h.1 ∙ sym k.1)
outcomes_once names (part ∷ parts) os os' left left' are h k =
    by_last names part parts (is_none parts) os os' left left' are (λ next rest rest' are_next. outcomes_once next parts rest rest' left left' are_next) h k

pub script_once : (names : Names) (bytes : List ℕ) (os os' : List Outcome) (left left' : Names) → AreValues names → IsScript names bytes os left → IsScript names bytes os' left'
    → (os ≡ os') × (left ≡ left')
script_once names bytes os os' left left' are h k = outcomes_once names (slice_split is_end bytes) os os' left left' are h k
