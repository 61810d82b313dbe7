use Rattle.std.proofs.Common.{refl}
use Rattle.std.proofs.lemmas.Result.{err_from_is_err_and}
use Rattle.hopf.proofs.Sessions.{stops_at_once}
use Rattle.hopf.proofs.session.Session.feed.Goals as goal

pub returns-then-self-clause-err : goal.returns-then-self-clause-err
returns-then-self-clause-err g c = stops_at_once c.args.self.now c.args.self.now _ c.args.piece.now refl

pub returns-in_err-feed_bytes-clause-steady : goal.returns-in_err-feed_bytes-clause-steady
returns-in_err-feed_bytes-clause-steady g c =
    let p = err_from_is_err_and c.from_residual.result c.from_residual.ensures.1 in
    record { never = λ n r all left room script fits. rw (p.1, p.2) (c.in_err-feed_bytes.ensures.steady.never n r all left room script fits) }

-- whether the session is ended is no part of what it prints
pub returns-clause-ok : goal.returns-clause-ok
returns-clause-ok g c =
    let h = c.in_ok-feed_bytes.ensures.ok in
    record {
      written = h.written;
      appended = h.appended;
      continues = λ r.
          let k = h.continues r in
          record {
            forth = λ rest left script.
                let (all, is, same) = k.forth rest left script in
                (all, is, record { lines = same.lines; statements = same.statements; printed = same.printed; refused = same.refused });
            back = λ all left script.
                let (rest, is, same) = k.back all left script in
                (rest, is, record { lines = same.lines; statements = same.statements; printed = same.printed; refused = same.refused });
          };
      used = h.used;
    }
