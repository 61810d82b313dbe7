-- The laws of sessions.
use Rattle.std.specs.Prelude.{◌≡◌, ◌≤◌, ℕ, List, length}
use Rattle.hopf_laws.specs.Values.{Expansion, IsValue}
use Rattle.value_texts.specs.Text.{IsTextOf}
use Rattle.hopf.specs.declared.statement.Outcome.{Outcome}
use Rattle.hopf.specs.declared.statement.Outcome.TheVariants.{Printed}
use Rattle.hopf.specs.Outcomes.{IsOutcome}
use Rattle.session_evaluation.specs.Names.{Names, AreValues}
use Rattle.hopf.specs.Transcript.{IsScript}

-- in names that stand for values, every list of bytes has one list of outcomes, and so one transcript, and leaves one list of names
abbrev pub TranscriptLaw : Type 0
TranscriptLaw = (names : Names) (bytes : List ℕ) → AreValues names → (outcomes : List Outcome) × (left : Names) × IsScript names bytes outcomes left
    × ((others : List Outcome) (left' : Names) → IsScript names bytes others left' → (others ≡ outcomes) × (left' ≡ left))

-- in names that stand for values, the text of a value (`true` and `false`, which an equality prints, are none), where it is no longer than a statement may be, is a statement that prints this text and leaves the names
abbrev pub ReadBackLaw : Type 0
ReadBackLaw = (names : Names) (v : Expansion) (text : List ℕ) → AreValues names → IsValue v → IsTextOf v text → length text ≤ 65536 → IsOutcome names text (Printed text) names
