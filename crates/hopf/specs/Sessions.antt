-- What a session does to its state and to its output.
use Rattle.std.specs.Prelude.{◌≡◌, ◌≢◌, ◌↔◌, ℕ, ◌+◌, ◌-◌, [], ◌≤◌, List, ◌++◌, All, false, length, Option, Some, Result, IsErrOf}
use Rattle.std.specs.Io.KnownBytes.{Appends}
use Rattle.hopf_io.specs.Prefixes.{IsPrefix}
use Rattle.hopf.specs.declared.statement.Outcome.{Outcome}
use Rattle.hopf.specs.declared.statement.Outcome.TheVariants.{Refused}
use Rattle.hopf.specs.declared.session.Session.{Session}
use Rattle.hopf.specs.declared.session.SessionFault.{SessionFault}
use Rattle.hopf.specs.declared.session.SessionFault.TheVariants.{Write}
use Rattle.session_evaluation.specs.Names.{Names}
use Rattle.hopf.specs.Transcript.{is_end, trimmed, IsScript, lines, count_printed, count_refused}
use Rattle.basis_routes.specs.declared.refusal.Refusal.TheVariants as value
use Rattle.session_reading.specs.declared.fault.GrammarFault.TheVariants as fault
use Rattle.hopf.specs.declared.refusal.StatementRefusal.TheVariants as refusal

-- What is pending.

-- the bytes may be those since the last `;`: none of them is `;`, and the session keeps what they are without the blanks in front
abbrev pub Pends : List ℕ → Session → Type 0
Pends bytes session = All (λ c. is_end c ≡ false) bytes × (session.pending ≡ trimmed bytes)

-- the outcomes of the statements of pending bytes followed by these, and the names that they leave
abbrev pub Script : Session → List ℕ → List Outcome → Names → Type 0
Script session bytes os left = (text : List ℕ) × Pends text session × IsScript session.names (text ++ bytes) os left

-- some bytes are pending, and no matter which, they have the same scripts
pub record PendingLaw (session : Session) : Type 0 where
  pub text : List ℕ
  pub pends : Pends text session
  pub same : (other more : List ℕ) (os : List Outcome) (left : Names) → Pends other session
      → IsScript session.names (text ++ more) os left ↔ IsScript session.names (other ++ more) os left

-- One statement.

-- no statement whose `;` came has this outcome: the text was ended, and want of memory is no refusal
pub record IsTold (outcome : Outcome) : Type 0 where
  pub ended : outcome ≢ Refused refusal.Unfinished
  pub read : outcome ≢ Refused (refusal.Grammar fault.Memory)
  pub evaluated : outcome ≢ Refused (refusal.Value value.Memory)

-- the names aside, the session is as it was
pub record KeepsAllButNames (old new : Session) : Type 0 where
  pub statements : new.statements ≡ old.statements
  pub printed : new.printed ≡ old.printed
  pub refused : new.refused ≡ old.refused
  pub pending : (bytes : List ℕ) → Pends bytes old ↔ Pends bytes new
  pub ended : new.ended ≡ old.ended

-- Pieces of the input.

-- the lines of all are what was written and the lines of rest, and the counts are those of rest more
pub record Same (old new : Session) (written : List ℕ) (all rest : List Outcome) : Type 0 where
  pub lines : lines old.statements all ≡ written ++ lines new.statements rest
  pub statements : old.statements + length all ≡ new.statements + length rest
  pub printed : old.printed + count_printed all ≡ new.printed + count_printed rest
  pub refused : old.refused + count_refused all ≡ new.refused + count_refused rest

-- what old prints for x is what was written, followed by what new prints for y; and both leave the same names
pub record Continues (old new : Session) (x y : List ℕ) (written : List ℕ) : Type 0 where
  pub forth : (rest : List Outcome) (left : Names) → Script new y rest left → (all : List Outcome) × Script old x all left × Same old new written all rest
  pub back : (all : List Outcome) (left : Names) → Script old x all left → (rest : List Outcome) × Script new y rest left × Same old new written all rest

-- from old to new the session ran the piece: whatever bytes follow, it wrote what they leave to new of the transcript
pub record Advances (old new : Session) (taken taken' : Option (List ℕ)) (room room' : Option ℕ) (piece : List ℕ) : Type 0 where
  pub written : List ℕ
  pub appended : Appends taken taken' written
  pub continues : (r : List ℕ) → Continues old new (piece ++ r) r written
  pub used : (n : ℕ) → room ≡ Some n → length written ≤ n → room' ≡ Some (n - length written)

-- the names are those that the statements of a front of the piece leave
pub record Leaves (old : Session) (piece : List ℕ) (names : Names) : Type 0 where
  pub front : List ℕ
  pub behind : List ℕ
  pub outcomes : List Outcome
  pub parts : piece ≡ front ++ behind
  pub are : Script old front outcomes names

-- it stopped: whatever bytes follow, it wrote a prefix of the transcript
pub record Stops (old new : Session) (taken taken' : Option (List ℕ)) (piece : List ℕ) : Type 0 where
  pub written : List ℕ
  pub appended : Appends taken taken' written
  pub prefix : (r : List ℕ) (all : List Outcome) (left : Names) → Script old (piece ++ r) all left → IsPrefix written (lines old.statements all)
  pub names : Leaves old piece new.names

-- on a steady sink that has room for the transcript, for some bytes that follow, no write fails
pub record WritesIfSteady (old : Session) (room : Option ℕ) (piece : List ℕ) (result : Result Unit SessionFault) : Type 0 where
  pub never : (n : ℕ) (r : List ℕ) (all : List Outcome) (left : Names) → room ≡ Some n → Script old (piece ++ r) all left
      → length (lines old.statements all) ≤ n → IsErrOf result Write → ⊥

-- The end of the input.

-- what was pending was run as the last statement, if it was one
pub record Finishes (old new : Session) (taken taken' : Option (List ℕ)) : Type 0 where
  pub outcomes : List Outcome
  pub are : Script old [] outcomes new.names
  pub appended : Appends taken taken' (lines old.statements outcomes)
  pub statements : new.statements ≡ old.statements + length outcomes
  pub printed : new.printed ≡ old.printed + count_printed outcomes
  pub refused : new.refused ≡ old.refused + count_refused outcomes

-- A whole input.

-- it was run
pub record Runs (old new : Session) (bytes : List ℕ) (taken taken' : Option (List ℕ)) : Type 0 where
  pub outcomes : List Outcome
  pub are : Script old bytes outcomes new.names
  pub appended : Appends taken taken' (lines old.statements outcomes)
  pub refused : new.refused ≡ old.refused + count_refused outcomes

-- it was not wholly run: what was written is a prefix of each transcript that it has
pub record StopsWhole (old : Session) (bytes : List ℕ) (taken taken' : Option (List ℕ)) : Type 0 where
  pub written : List ℕ
  pub appended : Appends taken taken' written
  pub prefix : (all : List Outcome) (left : Names) → Script old bytes all left → IsPrefix written (lines old.statements all)

-- on a steady sink that has room for the transcript no write fails
pub record WholeIfSteady (old : Session) (room : Option ℕ) (bytes : List ℕ) (result : Result Unit SessionFault) : Type 0 where
  pub never : (n : ℕ) (all : List Outcome) (left : Names) → room ≡ Some n → Script old bytes all left → length (lines old.statements all) ≤ n → IsErrOf result Write → ⊥
