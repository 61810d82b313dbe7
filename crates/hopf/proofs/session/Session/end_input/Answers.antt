use Rattle.std.proofs.Common.{◌≡◌, ℕ, List, rules, refl, subst}
use Rattle.std.specs.Io.KnownBytes.{Appends}
use Rattle.hopf.specs.SessionSteps.{last_of}
use Rattle.hopf.specs.Transcript.{lines}
use Rattle.hopf.proofs.Sessions.{last_line, finishes_some, never_fails}
use Rattle.hopf.proofs.session.Session.end_input.Goals as goal

pub returns-in_err-send_line-clause-steady : goal.returns-in_err-send_line-clause-steady
returns-in_err-send_line-clause-steady g c n room fits =
    let whole : c.as_slice-3.result.now ≡ lines c.args.self.now.statements (last_of c.args.self.now) = search (rules, last_line) in
    absurd (never_fails _ _ _ _ c.in_err-send_line.field-0.0 whole c.in_err-send_line.ensures.steady n room fits)

pub returns-clause-ok : goal.returns-clause-ok
returns-clause-ok g c =
    let whole : c.as_slice-3.result.now ≡ lines c.args.self.now.statements (last_of c.args.self.now) = search (rules, last_line) in
    finishes_some c.args.self.now _ _ _ (search rules) (subst (λ (l : List ℕ). Appends (g.O.Sink.taken c.args.out.now) (g.O.Sink.taken c.send_line.new.out) l) whole c.in_ok-send_line.ensures.all) refl refl refl refl
