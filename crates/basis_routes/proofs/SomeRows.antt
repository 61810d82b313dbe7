-- Rows that allow an answer.
use Rattle.std.proofs.Common.{◌≡◌, List, Ok, Err, inl, inr, refl, subst}
use Rattle.std.specs.Prelude.{All}
use Rattle.basis_names.specs.declared.bases.BasisId.{BasisId}
use Rattle.realisations.specs.Readings.{Reading}
use Rattle.hopf_laws.specs.Values.{Expansion, Expands}
use Rattle.basis_routes.specs.declared.checks.Check.{Check}
use Rattle.basis_routes.specs.declared.refusal.Refusal.{Refusal}
use Rattle.basis_routes.specs.Checks.{Passes, IsCheck}
use Rattle.basis_routes.specs.Rows.{Answer, Row, Checked, Then, Answers}
use Rattle.basis_routes.proofs.DecidedChecks.{checks_decided}
use Rattle.basis_routes.proofs.ValueRows.{told, same_value}

-- there is an answer that the row allows, and of a value that it is this holds
pub record ComesTo (Allowed : Row) (P : Expansion → Type 0) : Type 0 where
  pub answer : Answer
  pub allowed : Allowed answer
  pub holds : (v : Expansion) → answer ≡ told v → P v

-- nothing is asked of a value
abbrev pub Any : Expansion → Type 0
Any v = Unit {0}

refused : (r : Refusal) (v : Expansion) (err : Answer) → err ≡ Err r → err ≡ told v → ⊥
refused r v err is is' = cc

-- a value that the row allows
pub comes_to_value : (Allowed : Row) (P : Expansion → Type 0) (v : Expansion) → Allowed (told v) → P v → ComesTo Allowed P
comes_to_value Allowed P v allowed holds = record { answer = told v; allowed = allowed; holds = λ w is. subst P (same_value v w is) holds }

-- checks that can be made, before a rest that comes to an answer where they pass
pub checked_some : (checks : List Check) (Rest : Row) (P : Expansion → Type 0)
    → All IsCheck checks → (All Passes checks → ComesTo Rest P) → ComesTo (Checked checks Rest) P
checked_some checks Rest P are rest = elim (checks_decided checks are) [
  | inl pass ↦ let r = rest pass in record { answer = r.answer; allowed = inl (pass, r.allowed); holds = r.holds }
  | inr failing ↦ record {
    answer = Err failing.0;
    allowed = inr (failing.0, failing.1, refl);
    holds = λ v is. absurd (refused failing.0 v (Err failing.0) refl is);
  }
]

-- a step that comes to an answer, before a rest that does after each value of the step
pub then_some : (Step : Row) (Rest : Expansion → Row) (P Q : Expansion → Type 0)
    → ComesTo Step P → ((v : Expansion) → Step (Ok v) → P v → ComesTo (Rest v) Q) → ComesTo (Then Step Rest) Q
then_some Step Rest P Q step later = from step.answer step.allowed step.holds
  where
    from : (s : Answer) → Step s → ((v : Expansion) → s ≡ told v → P v) → ComesTo (Then Step Rest) Q
    from (Ok v) allowed holds =
        let r = later v allowed (holds v refl) in
        record { answer = r.answer; allowed = inl (v, allowed, r.allowed); holds = r.holds }
    from (Err q) allowed holds = record { answer = Err q; allowed = inr (q, allowed, refl); holds = λ v is. absurd (refused q v (Err q) refl is) }

-- a value that expands the reading
pub answers_some : (bases : List BasisId) (reading : Reading) (P : Expansion → Type 0) (v : Expansion) → Expands bases reading v → P v → ComesTo (Answers bases reading) P
answers_some bases reading P v h holds = comes_to_value (Answers bases reading) P v (v, h, refl) holds
