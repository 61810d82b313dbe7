use Rattle.std.proofs.Common.{◌≡◌, ◌<◌, nat_lt, sym, ap, arith}
use Rattle.std.proofs.lemmas.Bool.{lt-ltb}
use Rattle.hopf.specs.declared.session.Counts.{Counts}
use Rattle.hopf.specs.declared.status.Status.TheVariants.{Ok, Refused, WriteFault}
use Rattle.hopf.specs.Runs.{is_refused}
use Rattle.hopf.specs.declared.session.SessionFault.TheVariants.{Write}
use Rattle.hopf.proofs.Runs.{at_left, transcript_of_new, prefix_of_new, never_of_new, not_both}
use Rattle.hopf.proofs.run.run_session.Goals.{in-Write, in-Memory}
use Rattle.hopf.proofs.run.run_session.Goals as goal

pub returns-in-Err-clause-prefix : goal.returns-in-Err-clause-prefix
returns-in-Err-clause-prefix g c stopped =
    let new = c.new-session.ensures in
    let prefix = prefix_of_new c.new-session.result c.as_slice.result.now _ _ new.names new.pending new.statements c.in-Err.ensures.err in
    at_left _ _ _ _ c.in-Ok.ensures.all c.in-Ok.ensures.end (rw c.as_slice.ensures at prefix)

pub returns-in-Err-clause-steady_sink : goal.returns-in-Err-clause-steady_sink
returns-in-Err-clause-steady_sink g c =
    let new = c.new-session.ensures in
    let never = never_of_new c.new-session.result c.as_slice.result.now _ _ new.names new.pending new.statements c.in-Err.ensures.steady in
    let is_write : c.match-fault.result ≡ WriteFault → c.in-Err.fault ≡ Write =
    λ is. elim c.match-fault.branch [ in-Write w ↦ w.in-Write.is | in-Memory w ↦ absurd (not_both _ w.result-is is) ] in
    at_left _ _ _ _ c.in-Ok.ensures.all c.in-Ok.ensures.end (λ has is. (rw c.as_slice.ensures at never) has (is_write is))

pub returns-then-count-gt0-clause-whole : goal.returns-then-count-gt0-clause-whole
returns-then-count-gt0-clause-whole g c done =
    let new = c.new-session.ensures in
    let some : 0 < c.run_all.new.self.refused = omega (arith, c.if-count-gt0.true, ap (λ (counts : Counts). counts.refused) c.count.ensures) in
    let is : is_refused Refused ≡ nat_lt 0 c.run_all.new.self.refused = sym (lt-ltb 0 c.run_all.new.self.refused some) in
    let transcript = transcript_of_new c.new-session.result c.run_all.new.self Refused c.as_slice.result.now _ _ new.names new.pending new.statements new.refused is c.in_default.ensures.ok in
    at_left _ _ _ _ c.in-Ok.ensures.all c.in-Ok.ensures.end (rw c.as_slice.ensures at transcript)

pub returns-clause-whole : goal.returns-clause-whole
returns-clause-whole g c done =
    let new = c.new-session.ensures in
    let none : c.run_all.new.self.refused ≡ 0 = omega (arith, c.if-count-gt0.false, ap (λ (counts : Counts). counts.refused) c.count.ensures) in
    let is : is_refused Ok ≡ nat_lt 0 c.run_all.new.self.refused = sym (ap (nat_lt 0) none) in
    let transcript = transcript_of_new c.new-session.result c.run_all.new.self Ok c.as_slice.result.now _ _ new.names new.pending new.statements new.refused is c.in_default.ensures.ok in
    at_left _ _ _ _ c.in-Ok.ensures.all c.in-Ok.ensures.end (rw c.as_slice.ensures at transcript)
