use Rattle.std.proofs.Common.{◌<◌, ◌-◌, ◌≡◌, get_or, length, arith, subst}
use Rattle.binary_trees.proofs.RootPlaces.{IsPast, one_more, past_none, past_more, cut_here, past_all}
use Rattle.binary_trees.proofs.codes.root_place.Goals as goal

pub loop-at-init : goal.loop-at-init
loop-at-init c = past_none c.args.code.now

pub returns-then-from-len : goal.returns-then-from-len
returns-then-from-len c =
    let lt : c.loop-at.at < length c.args.code.now = omega (arith, c.len-at-end.ensures.value) in
    let root : get_or c.args.code.now c.loop-at.at 0 ≡ length c.args.code.now - c.loop-at.at = omega (arith, c.if-from-len.true, c.from.ensures, c.letter.ensures, c.len.ensures.value) in
    let cut = cut_here c.args.code.now c.loop-at.at lt root c.loop-at.invariant in
    (lt, cut.before, cut.after)

pub loop-at-preserved : goal.loop-at-preserved
loop-at-preserved c =
    let lt : c.loop-at.at < length c.args.code.now = omega (arith, c.len-at-end.ensures.value) in
    subst (λ n. IsPast c.args.code.now n) (one_more c.loop-at.at)
    (past_more c.args.code.now c.loop-at.at lt (λ e. c.if-from-len.false (omega (arith, e, c.from.ensures, c.letter.ensures, c.len.ensures.value))) c.loop-at.invariant)

pub returns : goal.returns
returns c = past_all c.args.code.now c.loop-at.at (omega (arith, c.len-at-end.ensures.value)) c.loop-at.invariant
