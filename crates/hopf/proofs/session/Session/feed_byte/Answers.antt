use Rattle.std.proofs.Common.{rules, refl}
use Rattle.std.proofs.lemmas.Result.{err_from_is_err_and}
use Rattle.hopf.proofs.Sessions.{advances_end, stops_end, steady_end, stops_at_once, advances_byte, advances_blank}
use Rattle.hopf.proofs.session.Session.feed_byte.Goals as goal

pub returns-then-byte-eq59-clause-ok : goal.returns-then-byte-eq59-clause-ok
returns-then-byte-eq59-clause-ok g c = rw c.if-byte-eq59.true (advances_end _ _ _ _ _ _ c.in_ok-end_statement.ensures.ok)

pub returns-in_err-end_statement-clause-err : goal.returns-in_err-end_statement-clause-err
returns-in_err-end_statement-clause-err g c =
    let p = err_from_is_err_and c.from_residual.result c.from_residual.ensures.1 in
    rw (p.1, c.if-byte-eq59.true) (stops_end _ _ _ _ c.in_err-end_statement.ensures.err)

pub returns-in_err-end_statement-clause-steady : goal.returns-in_err-end_statement-clause-steady
returns-in_err-end_statement-clause-steady g c =
    let p = err_from_is_err_and c.from_residual.result c.from_residual.ensures.1 in
    rw (p.1, p.2, c.if-byte-eq59.true) (steady_end _ _ _ c.in_err-end_statement.ensures.steady)

pub returns-then-is_blank-clause-ok : goal.returns-then-is_blank-clause-ok
returns-then-is_blank-clause-ok g c = advances_blank _ _ _ _ (search rules) (search rules) (search rules)

pub returns-in_err-push_all-clause-err : goal.returns-in_err-push_all-clause-err
returns-in_err-push_all-clause-err g c =
    let p = err_from_is_err_and c.from_residual-in_err-push_all.result c.from_residual-in_err-push_all.ensures.1 in
    rw p.1 (stops_at_once _ _ _ _ refl)

pub returns-clause-ok : goal.returns-clause-ok
returns-clause-ok g c = advances_byte _ _ _ _ _ refl refl refl refl c.in_ok-push_all.ensures.ok
