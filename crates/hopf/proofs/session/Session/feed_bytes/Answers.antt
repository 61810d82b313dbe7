use Rattle.std.proofs.Common.{ℕ, ◌+◌, ◌∷◌, [], List, drop, get_or, arith, sym, ◌∙◌, subst}
use Rattle.std.proofs.lemmas.List.{take_more}
use Rattle.std.proofs.lemmas.Result.{err_from_is_err_and}
use Rattle.hopf.specs.Sessions.{Advances, Stops, WritesIfSteady}
use Rattle.hopf.proofs.Sessions.{advances_then, stops_then, steady_then, around}
use Rattle.hopf.proofs.session.Session.feed_bytes.Goals as goal

pub returns-in_err-feed_byte-clause-err : goal.returns-in_err-feed_byte-clause-err
returns-in_err-feed_byte-clause-err g c =
    let p = err_from_is_err_and c.from_residual.result c.from_residual.ensures.1 in
    let i = c.loop-i.i in
    rw p.1 (subst (λ (l : List ℕ). Stops c.args.self.now c.feed_byte.new.self (g.O.Sink.taken c.args.out.now) (g.O.Sink.taken c.feed_byte.new.out) l) (around c.args.piece.now i (omega arith))
    (stops_then _ _ _ _ _ _ _ _ _ _ (drop (i + 1) c.args.piece.now) c.loop-i.invariant.so_far c.in_err-feed_byte.ensures.err))

pub returns-in_err-feed_byte-clause-steady : goal.returns-in_err-feed_byte-clause-steady
returns-in_err-feed_byte-clause-steady g c =
    let i = c.loop-i.i in
    let p = err_from_is_err_and c.from_residual.result c.from_residual.ensures.1 in
    let step : WritesIfSteady c.loop-i.self (g.O.Sink.room c.loop-i.out) (get_or c.args.piece.now i 0 ∷ []) c.from_residual.result =
    rw (p.1, p.2) c.in_err-feed_byte.ensures.steady in
    subst (λ (l : List ℕ). WritesIfSteady c.args.self.now (g.O.Sink.room c.args.out.now) l c.from_residual.result) (around c.args.piece.now i (omega arith))
    (steady_then _ _ _ _ _ _ _ (get_or c.args.piece.now i 0 ∷ []) (drop (i + 1) c.args.piece.now) _ c.loop-i.invariant.so_far step)

pub loop-i-preserved : goal.loop-i-preserved
loop-i-preserved g c =
    let i = c.loop-i.i in
    record {
      so_far = subst (λ (l : List ℕ). Advances c.args.self.now c.feed_byte.new.self (g.O.Sink.taken c.args.out.now) (g.O.Sink.taken c.feed_byte.new.out) (g.O.Sink.room c.args.out.now) (g.O.Sink.room c.feed_byte.new.out) l)
          (sym (take_more c.args.piece.now i 0 (omega arith)))
          (advances_then _ _ _ _ _ _ _ _ _ _ _ c.loop-i.invariant.so_far c.in_ok-feed_byte.ensures.ok);
      statements = omega (arith, c.in_ok-feed_byte.ensures.statements);
      ended = c.in_ok-feed_byte.ensures.ended ∙ c.loop-i.invariant.ended;
      later = omega arith;
    }
