-- What the answer of the parser means for a statement.
use Rattle.std.proofs.Common.{◌≡◌, ℕ, ◌≤◌, List, Ok, Err, Result, IfOk, length, sym, subst}
use Rattle.hopf_num.specs.declared.memory.OutOfMemory.{OutOfMemory}
use Rattle.session_grammar.specs.declared.expression.Statement.{Statement}
use Rattle.session_reading.specs.declared.fault.GrammarFault.{GrammarFault}
use Rattle.session_reading.specs.Parses.{IsAnswer, Parses, no_memory, answered}
use Rattle.hopf.specs.declared.statement.Outcome.{Outcome}
use Rattle.hopf.specs.declared.statement.Outcome.TheVariants.{Refused}
use Rattle.session_evaluation.specs.Built.{IsBuiltStatement}
use Rattle.session_evaluation.specs.Names.{Names}
use Rattle.hopf.specs.Outcomes.{IsOutcome, misread}
use Rattle.hopf.specs.Sessions.{IsTold}
use Rattle.hopf.proofs.BuiltStatements.{sound_built}
use Rattle.hopf.specs.declared.refusal.StatementRefusal.TheVariants as refusal

-- a statement that was read is the text's
pub parsed_answer : (text : List ℕ) (st : Statement) → Parses text (Ok st) → IsAnswer text (Ok st)
parsed_answer text st (answered h) = h

-- and it is built
pub parsed_built : (text : List ℕ) (st : Statement) → Parses text (Ok st) → IsBuiltStatement st
parsed_built text st (answered h) = sound_built _ st h.answers

misread_as : (names : Names) (text : List ℕ) (f : GrammarFault) (o : Outcome) → length text ≤ 65536 → Parses text (Err f) → o ≡ Refused (refusal.Grammar f) → IsTold o → IsOutcome names text o names
misread_as names text f o short no_memory is told = absurd (told.read is)
misread_as names text f o short (answered h) is told = subst (λ (x : Outcome). IsOutcome names text x names) (sym is) (misread short h)

-- a fault that is told is the outcome
pub misread_outcome : (names : Names) (text : List ℕ) (f : GrammarFault) (result : Result Outcome OutOfMemory) → length text ≤ 65536 → Parses text (Err f)
    → IfOk result (λ o. o ≡ Refused (refusal.Grammar f)) → IfOk result IsTold → IfOk result (λ o. IsOutcome names text o names)
misread_outcome names text f (Ok o) short h is told = misread_as names text f o short h is told
misread_outcome names text f (Err e) short h is told = tt
