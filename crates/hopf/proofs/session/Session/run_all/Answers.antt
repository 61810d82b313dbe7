use Rattle.std.proofs.lemmas.Result.{err_from_is_err_and}
use Rattle.hopf.proofs.Sessions.{runs_whole, stops_whole, stops_at_end, steady_whole, steady_at_end}
use Rattle.hopf.proofs.session.Session.run_all.Goals as goal

pub returns-in_err-feed-clause-err : goal.returns-in_err-feed-clause-err
returns-in_err-feed-clause-err g c =
    let p = err_from_is_err_and c.from_residual.result c.from_residual.ensures.1 in
    rw p.1 (stops_whole _ _ _ _ _ c.in_err-feed.ensures.err)

pub returns-in_err-feed-clause-steady : goal.returns-in_err-feed-clause-steady
returns-in_err-feed-clause-steady g c =
    let p = err_from_is_err_and c.from_residual.result c.from_residual.ensures.1 in
    rw (p.1, p.2) (steady_whole _ _ _ _ c.in_err-feed.ensures.steady)

pub returns-in_err-finish-clause-err : goal.returns-in_err-finish-clause-err
returns-in_err-finish-clause-err g c =
    let p = err_from_is_err_and c.from_residual-in_err-finish.result c.from_residual-in_err-finish.ensures.1 in
    rw p.1 (stops_at_end _ _ _ _ _ _ _ _ c.in_ok-feed.ensures.ok c.in_err-finish.ensures.err)

pub returns-in_err-finish-clause-steady : goal.returns-in_err-finish-clause-steady
returns-in_err-finish-clause-steady g c =
    let p = err_from_is_err_and c.from_residual-in_err-finish.result c.from_residual-in_err-finish.ensures.1 in
    rw (p.1, p.2) (steady_at_end _ _ _ _ _ _ _ _ c.in_ok-feed.ensures.ok c.in_err-finish.ensures.steady)

pub returns-clause-ok : goal.returns-clause-ok
returns-clause-ok g c = runs_whole _ _ _ _ _ _ _ _ _ c.in_ok-feed.ensures.ok c.in_ok-finish.ensures.ok
