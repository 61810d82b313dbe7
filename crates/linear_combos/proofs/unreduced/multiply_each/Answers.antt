use Rattle.std.proofs.Common.{ℕ, List, ◌<◌, length, ap, arith}
use Rattle.std.proofs.Math.IntN.{ℤ}
use Rattle.std.proofs.lemmas.Int.{to_z-of_z}
use mir.Syntax.{w128}
use Rattle.linear_combos.proofs.Multiples.{multiple_step, term_ahead, term_room}
use Rattle.linear_combos.proofs.unreduced.multiply_each.Goals as goal

pub multiply_term-requires-clause-room : goal.multiply_term-requires-clause-room
multiply_term-requires-clause-room c =
    let ts = c.args.terms.now.items in
    let lt : c.loop-at.at < length ts = omega arith in
    let by = to_z-of_z w128 c.args.by c.ranges.by in
    rw (by, ap (λ (t : ℤ × List (List ℕ)). t.0) (term_ahead _ ts c.loop-at.terms.items c.loop-at.at lt c.loop-at.invariant)) (term_room ts c.args.by c.loop-at.at lt c.requires.room)

pub loop-at-preserved : goal.loop-at-preserved
loop-at-preserved c =
    multiple_step _ c.args.terms.now.items c.loop-at.terms.items _ c.loop-at.at (omega arith) c.loop-at.invariant c.multiply_term.ensures
