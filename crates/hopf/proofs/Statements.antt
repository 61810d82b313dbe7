-- How the outcomes of the bytes follow from their first byte.
use Rattle.std.proofs.Common.{◌≡◌, ℕ, List, [], ◌∷◌, ◌++◌, Bool, true, false, cond, refl, sym, subst}
use Rattle.std.specs.List.{slice_split, onto_first, All}
use Rattle.std.proofs.lemmas.List.Elements.{All-head, All-tail}
use Rattle.std.proofs.lemmas.List.Splits.{slice_split_none, slice_split_at}
use Rattle.session_tokens.specs.Tokens.{is_blank}
use Rattle.hopf.specs.declared.statement.Outcome.{Outcome}
use Rattle.session_evaluation.specs.Names.{Names}
use Rattle.hopf.specs.Outcomes.{IsOutcome}
use Rattle.hopf.specs.Transcript.{is_end, trimmed, unfinished, is_none, AreOutcomes, IsScript, starts_blank, IsText}

pub trimmed_text : (text : List ℕ) → starts_blank text ≡ false → trimmed text ≡ text
trimmed_text [] h = refl
trimmed_text (c ∷ text) h = rw h

onto_first-some : (c : ℕ) (parts : List (List ℕ)) → is_none (onto_first c parts) ≡ false
onto_first-some c [] = refl
onto_first-some c (part ∷ parts) = refl

slice_split-some : (bytes : List ℕ) → is_none (slice_split is_end bytes) ≡ false
slice_split-some [] = refl
slice_split-some (c ∷ bytes) =
    elim (is_end c) as (λ b. is_none (cond b ([] ∷ slice_split is_end bytes) (onto_first c (slice_split is_end bytes))) ≡ false)
    [ true ↦ refl | false ↦ onto_first-some c (slice_split is_end bytes) ]

-- a `;` ends the text
pub script_end : (names : Names) (text r : List ℕ) (o : Outcome) (next : Names) (rest : List Outcome) (left : Names) → IsText text → IsOutcome names text o next
    → IsScript next r rest left → IsScript names (text ++ 59 ∷ r) (o ∷ rest) left
script_end names text r o next rest left h is script =
    rw (slice_split_at is_end text 59 r h.no_end refl, slice_split-some r, trimmed_text text h.no_blank) (o, next, rest, refl, is, script)

pub from_script_end : (names : Names) (text r : List ℕ) (all : List Outcome) (left : Names) → IsText text → IsScript names (text ++ 59 ∷ r) all left
    → (o : Outcome) × (next : Names) × (rest : List Outcome) × (all ≡ o ∷ rest) × IsOutcome names text o next × IsScript next r rest left
from_script_end names text r all left h script =
    rw (slice_split_at is_end text 59 r h.no_end refl, slice_split-some r, trimmed_text text h.no_blank) at script

onto_blank : (names : Names) (c : ℕ) (parts : List (List ℕ)) (os : List Outcome) (left : Names) → is_blank c ≡ true → AreOutcomes names parts os left → AreOutcomes names (onto_first c parts) os left
onto_blank names c [] os left h k = rw h k
onto_blank names c (part ∷ parts) os left h k = rw h k

from_onto_blank : (names : Names) (c : ℕ) (parts : List (List ℕ)) (os : List Outcome) (left : Names) → is_blank c ≡ true → AreOutcomes names (onto_first c parts) os left → AreOutcomes names parts os left
from_onto_blank names c [] os left h k = rw h at k
from_onto_blank names c (part ∷ parts) os left h k = rw h at k

-- a blank before a text counts for nothing
pub script_blank : (names : Names) (c : ℕ) (r : List ℕ) (os : List Outcome) (left : Names) → is_end c ≡ false → is_blank c ≡ true → IsScript names r os left → IsScript names (c ∷ r) os left
script_blank names c r os left e h k = rw e (onto_blank names c (slice_split is_end r) os left h k)

pub from_script_blank : (names : Names) (c : ℕ) (r : List ℕ) (os : List Outcome) (left : Names) → is_end c ≡ false → is_blank c ≡ true → IsScript names (c ∷ r) os left → IsScript names r os left
from_script_blank names c r os left e h k = from_onto_blank names c (slice_split is_end r) os left h (rw e at k)

trim_blank : (c : ℕ) (text : List ℕ) → is_blank c ≡ true → trimmed (c ∷ text) ≡ trimmed text
trim_blank c text h = rw h refl

trim_text : (c : ℕ) (text : List ℕ) → is_blank c ≡ false → trimmed (c ∷ text) ≡ c ∷ text
trim_text c text h = rw h refl

-- blanks at the beginning of bytes without a `;` count for nothing
trimmed_if : (names : Names) (c : ℕ) (text more : List ℕ) (os : List Outcome) (left : Names) (blank : Bool) → is_blank c ≡ blank → is_end c ≡ false
    → (IsScript names (text ++ more) os left → IsScript names (trimmed text ++ more) os left) → IsScript names (c ∷ (text ++ more)) os left → IsScript names (trimmed (c ∷ text) ++ more) os left
trimmed_if names c text more os left true is e step script =
    subst (λ (l : List ℕ). IsScript names (l ++ more) os left) (sym (trim_blank c text is)) (step (from_script_blank names c (text ++ more) os left e is script))
trimmed_if names c text more os left false is e step script = subst (λ (l : List ℕ). IsScript names (l ++ more) os left) (sym (trim_text c text is)) script

pub trimmed_script : (names : Names) (text more : List ℕ) (os : List Outcome) (left : Names) → All (λ c. is_end c ≡ false) text → IsScript names (text ++ more) os left
    → IsScript names (trimmed text ++ more) os left
trimmed_script names [] more os left h script = script
trimmed_script names (c ∷ text) more os left h script =
    trimmed_if names c text more os left (is_blank c) refl (All-head (λ x. is_end x ≡ false) c text h)
    (λ k. trimmed_script names text more os left (All-tail (λ x. is_end x ≡ false) c text h) k)
    script

untrimmed_if : (names : Names) (c : ℕ) (text more : List ℕ) (os : List Outcome) (left : Names) (blank : Bool) → is_blank c ≡ blank → is_end c ≡ false
    → (IsScript names (trimmed text ++ more) os left → IsScript names (text ++ more) os left) → IsScript names (trimmed (c ∷ text) ++ more) os left → IsScript names (c ∷ (text ++ more)) os left
untrimmed_if names c text more os left true is e step script =
    script_blank names c (text ++ more) os left e is (step (subst (λ (l : List ℕ). IsScript names (l ++ more) os left) (trim_blank c text is) script))
untrimmed_if names c text more os left false is e step script = subst (λ (l : List ℕ). IsScript names (l ++ more) os left) (trim_text c text is) script

pub script_trimmed : (names : Names) (text more : List ℕ) (os : List Outcome) (left : Names) → All (λ c. is_end c ≡ false) text → IsScript names (trimmed text ++ more) os left
    → IsScript names (text ++ more) os left
script_trimmed names [] more os left h script = script
script_trimmed names (c ∷ text) more os left h script =
    untrimmed_if names c text more os left (is_blank c) refl (All-head (λ x. is_end x ≡ false) c text h)
    (λ k. script_trimmed names text more os left (All-tail (λ x. is_end x ≡ false) c text h) k)
    script

-- the input ends in this text
pub script_last : (names : Names) (text : List ℕ) → IsText text → IsScript names text (unfinished text) names
script_last names text h = rw (slice_split_none is_end text h.no_end, trimmed_text text h.no_blank) (refl, refl)

pub from_script_last : (names : Names) (text : List ℕ) (os : List Outcome) (left : Names) → IsText text → IsScript names text os left → (os ≡ unfinished text) × (left ≡ names)
from_script_last names text os left h k = rw (slice_split_none is_end text h.no_end, trimmed_text text h.no_blank) at k
