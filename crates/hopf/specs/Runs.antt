-- What a run writes, by its status.
use Rattle.std.specs.Prelude.{◌≡◌, ℕ, ◌≤◌, List, [], length, Bool, true, false, Option, Some}
use Rattle.std.specs.Io.KnownBytes.{Appends}
use Rattle.hopf_io.specs.Prefixes.{IsPrefix}
use Rattle.hopf.specs.declared.statement.Outcome.{Outcome}
use Rattle.hopf.specs.declared.status.Status.{Status}
use Rattle.hopf.specs.declared.status.Status.TheVariants.{Refused}
use Rattle.session_evaluation.specs.Names.{Names}
use Rattle.hopf.specs.Transcript.{IsScript, lines, some_refused}

-- the status says that a statement was refused
abbrev pub is_refused : Status → Bool
is_refused Refused = true
is_refused _ = false

-- the transcript of the bytes, in no names, was written, and the status says whether any statement was refused
pub record WritesTranscript (status : Status) (bytes : List ℕ) (taken taken' : Option (List ℕ)) : Type 0 where
  pub outcomes : List Outcome
  pub names : Names
  pub are : IsScript [] bytes outcomes names
  pub appended : Appends taken taken' (lines 0 outcomes)
  pub refused : is_refused status ≡ some_refused outcomes

-- a prefix of the transcript was written
pub record WritesPrefix (bytes : List ℕ) (taken taken' : Option (List ℕ)) : Type 0 where
  pub written : List ℕ
  pub appended : Appends taken taken' written
  pub prefix : (outcomes : List Outcome) (names : Names) → IsScript [] bytes outcomes names → IsPrefix written (lines 0 outcomes)

-- the sink is steady and has room for the transcript
pub record HasRoom (room : Option ℕ) (bytes : List ℕ) : Type 0 where
  pub bytes_left : ℕ
  pub outcomes : List Outcome
  pub names : Names
  pub are : IsScript [] bytes outcomes names
  pub steady : room ≡ Some bytes_left
  pub enough : length (lines 0 outcomes) ≤ bytes_left
