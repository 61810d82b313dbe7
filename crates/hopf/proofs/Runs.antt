-- What a session says of the whole input.
use Rattle.std.proofs.Common.{◌≡◌, ℕ, ◌+◌, List, [], ◌∷◌, ◌++◌, Bool, true, false, ◌||◌, if◌then◌else◌, nat_lt, Option, Some, None, Err, IfSome, refl, ap, ◌∙◌, sym, subst, arith, append-nil}
use Rattle.std.proofs.lemmas.Bool.{lt-ltb}
use Rattle.std.proofs.lemmas.List.Sums.{sum_by-cons}
use Rattle.std.specs.Io.KnownBytes.{Consumes, IsAtEnd}
use Rattle.hopf.specs.declared.statement.Outcome.{Outcome}
use Rattle.hopf.specs.declared.session.Session.{Session}
use Rattle.hopf.specs.declared.session.SessionFault.{SessionFault}
use Rattle.hopf.specs.declared.session.SessionFault.TheVariants.{Write}
use Rattle.hopf.specs.declared.status.Status.{Status}
use Rattle.hopf.specs.declared.status.Status.TheVariants.{Memory, WriteFault}
use Rattle.session_evaluation.specs.Names.{Names}
use Rattle.hopf.specs.Outcomes.{is_refusal}
use Rattle.hopf.specs.Transcript.{IsScript, count_refused, some_refused}
use Rattle.hopf.specs.Sessions.{Pends, Script, Runs, StopsWhole, WholeIfSteady}
use Rattle.hopf.proofs.Sessions.{at_kept}
use Rattle.hopf.specs.Runs.{is_refused, WritesTranscript, WritesPrefix, HasRoom}

-- what is said of all that was read is said of all that was left
pub at_left : (left left' : Option (List ℕ)) (bytes : List ℕ) (P : List ℕ → Type 0) → Consumes left left' bytes → IsAtEnd left' → P bytes → IfSome left P
at_left None left' bytes P h e p = tt
at_left (Some x) None bytes P h e p = absurd h
at_left (Some x) (Some y) bytes P h e p = subst P (sym (h ∙ ap (λ l. bytes ++ l) e ∙ append-nil bytes)) p

some_more : (here : Bool) (count : ℕ) (later : Bool) → nat_lt 0 count ≡ later → nat_lt 0 ((if here then 1 else 0) + count) ≡ (here || later)
some_more true count later h = lt-ltb 0 (1 + count) (omega arith)
some_more false count later h = ap (nat_lt 0) (omega arith) ∙ h

-- some outcome is a refusal where their count is not 0
pub count_refused-some : (os : List Outcome) → nat_lt 0 (count_refused os) ≡ some_refused os
count_refused-some [] = refl
count_refused-some (o ∷ os) =
    ap (nat_lt 0) (sum_by-cons (λ (x : Outcome). if is_refusal x then 1 else 0) o os) ∙ some_more (is_refusal o) (count_refused os) (some_refused os) (count_refused-some os)

-- the scripts of a new session
script_of_new : (s : Session) (bytes : List ℕ) (os : List Outcome) (left : Names) → s.names ≡ [] → Pends [] s → IsScript [] bytes os left → Script s bytes os left
script_of_new s bytes os left names pends script = ([], pends, subst (λ (n : Names). IsScript n bytes os left) (sym names) script)

from_script_of_new : (s : Session) (bytes : List ℕ) (os : List Outcome) (left : Names) → s.names ≡ [] → Pends [] s → Script s bytes os left → IsScript [] bytes os left
from_script_of_new s bytes os left names (no_end, kept) script =
    subst (λ (n : Names). IsScript n bytes os left) names (subst (λ (l : List ℕ). IsScript s.names (l ++ bytes) os left) kept (at_kept s bytes os left script))

-- a new session ran the whole input
pub transcript_of_new : (s new : Session) (status : Status) (bytes : List ℕ) (t t' : Option (List ℕ)) → s.names ≡ [] → Pends [] s → s.statements ≡ 0 → s.refused ≡ 0
    → is_refused status ≡ nat_lt 0 new.refused → Runs s new bytes t t' → WritesTranscript status bytes t t'
transcript_of_new s new status bytes t t' names pends statements refused is h = record {
  outcomes = h.outcomes;
  names = new.names;
  are = from_script_of_new s bytes h.outcomes new.names names pends h.are;
  appended = rw statements at h.appended;
  refused = is ∙ ap (nat_lt 0) (h.refused ∙ omega (arith, refused)) ∙ count_refused-some h.outcomes;
}

-- a new session stopped
pub prefix_of_new : (s : Session) (bytes : List ℕ) (t t' : Option (List ℕ)) → s.names ≡ [] → Pends [] s → s.statements ≡ 0 → StopsWhole s bytes t t' → WritesPrefix bytes t t'
prefix_of_new s bytes t t' names pends statements h = record {
  written = h.written;
  appended = h.appended;
  prefix = λ os left script. rw statements at (h.prefix os left (script_of_new s bytes os left names pends script));
}

-- a new session over a sink that is steady with room
pub never_of_new : (s : Session) (bytes : List ℕ) (room : Option ℕ) (fault : SessionFault) → s.names ≡ [] → Pends [] s → s.statements ≡ 0
    → WholeIfSteady s room bytes (Err fault) → HasRoom room bytes → fault ≡ Write → ⊥
never_of_new s bytes room fault names pends statements h has same =
    h.never has.bytes_left has.outcomes has.names has.steady (script_of_new s bytes has.outcomes has.names names pends has.are) (rw statements has.enough) (ap Err same)

pub not_both : (s : Status) → s ≡ Memory → s ≡ WriteFault → ⊥
not_both s a b = let e : Memory ≡ WriteFault = sym a ∙ b in cc
