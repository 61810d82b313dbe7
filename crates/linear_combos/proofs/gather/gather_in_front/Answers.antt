use Rattle.std.proofs.Common.{◌<◌, length, arith, unsigned_abs, ap}
use Rattle.linear_combos.proofs.Sorted.{front_step, next_term, pending_room}
use Rattle.linear_combos.proofs.gather.gather_in_front.Goals as goal

pub gather_step-last-requires-clause-room : goal.gather_step-last-requires-clause-room
gather_step-last-requires-clause-room c =
    let ts = c.args.terms.now.items in
    let lt : c.loop-at.at < length ts = omega arith in
    let p = c.loop-at.invariant in
    let room = pending_room ts c.loop-at.at _ _ _ p.pending lt c.requires.room in
    omega (arith, room, ap (λ t. unsigned_abs t.0) (next_term ts c.loop-at.terms.items c.loop-at.at c.loop-at.last p lt))

pub loop-at-preserved : goal.loop-at-preserved
loop-at-preserved c =
    let ts = c.args.terms.now.items in
    let lt : c.loop-at.at < length ts = omega arith in
    front_step ts c.loop-at.terms.items c.loop-at.at c.loop-at.last c.loop-at.invariant lt c.gather_step-last.new.terms.items c.gather_step-last.result c.requires.sorted c.gather_step-last.ensures
