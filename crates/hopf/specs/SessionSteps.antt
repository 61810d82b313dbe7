-- What the private steps of a session do. Nothing here need be believed: no clause of a public call cites it.
use Rattle.std.specs.Prelude.{◌≡◌, ℕ, ◌+◌, ◌-◌, [], ◌≤◌, ◌⊎◌, List, length, if◌then◌else◌, Option, Some, Result, IsErrOf, OnOk}
use Rattle.std.specs.Io.KnownBytes.{Appends}
use Rattle.hopf_io.specs.Prefixes.{IsPrefix}
use Rattle.hopf.specs.declared.statement.Outcome.{Outcome}
use Rattle.hopf.specs.declared.session.Session.{Session}
use Rattle.hopf.specs.declared.session.SessionFault.{SessionFault}
use Rattle.hopf.specs.declared.session.SessionFault.TheVariants.{Write}
use Rattle.session_evaluation.specs.Names.{Names, AreValues}
use Rattle.hopf.specs.Outcomes.{IsOutcome, line_of, is_printed, is_refusal}
use Rattle.hopf.specs.Transcript.{unfinished}

-- a statement with this outcome was counted, and nothing else changed
pub record Counted (old new : Session) (outcome : Outcome) : Type 0 where
  pub names : new.names ≡ old.names
  pub statements : new.statements ≡ old.statements + 1
  pub printed : new.printed ≡ old.printed + (if is_printed outcome then 1 else 0)
  pub refused : new.refused ≡ old.refused + (if is_refusal outcome then 1 else 0)
  pub pending : new.pending ≡ old.pending
  pub ended : new.ended ≡ old.ended

-- The end of a statement.

-- the pending text was run
pub record Ends (old new : Session) (taken taken' : Option (List ℕ)) (room room' : Option ℕ) : Type 0 where
  pub values : AreValues old.names
  pub outcome : Outcome
  pub is : IsOutcome old.names old.pending outcome new.names
  pub statements : new.statements ≡ old.statements + 1
  pub printed : new.printed ≡ old.printed + (if is_printed outcome then 1 else 0)
  pub refused : new.refused ≡ old.refused + (if is_refusal outcome then 1 else 0)
  pub pending : new.pending ≡ []
  pub appended : Appends taken taken' (line_of (old.statements + 1) outcome)
  pub used : (n : ℕ) → room ≡ Some n → length (line_of (old.statements + 1) outcome) ≤ n → room' ≡ Some (n - length (line_of (old.statements + 1) outcome))

-- it was not wholly run: a prefix of its line was written, and it was run on the names or not
pub record EndStops (old new : Session) (taken taken' : Option (List ℕ)) : Type 0 where
  pub written : List ℕ
  pub appended : Appends taken taken' written
  pub prefix : (outcome : Outcome) (left : Names) → IsOutcome old.names old.pending outcome left → IsPrefix written (line_of (old.statements + 1) outcome)
  pub names : (new.names ≡ old.names) ⊎ ((outcome : Outcome) × IsOutcome old.names old.pending outcome new.names)

-- on a steady sink that has room for its line, no write fails
abbrev pub EndIfSteady : Session → Option ℕ → Result Unit SessionFault → Type 0
EndIfSteady old room result = (n : ℕ) (outcome : Outcome) (left : Names) → room ≡ Some n → IsOutcome old.names old.pending outcome left
    → length (line_of (old.statements + 1) outcome) ≤ n → IsErrOf result Write → ⊥

-- The end of the input.

-- the outcomes of what is pending where the input ends
abbrev pub last_of : Session → List Outcome
last_of s = unfinished s.pending

-- on a steady sink that has room for this many bytes no write fails, and they use the room
abbrev pub WritesLast : Option ℕ → Option ℕ → ℕ → Result Unit SessionFault → Type 0
WritesLast room room' count result = (n : ℕ) → room ≡ Some n → count ≤ n → (IsErrOf result Write → ⊥) × OnOk result (room' ≡ Some (n - count))
