use Rattle.std.proofs.Common.{◌≡◌, ◌<◌, length, subst, sym, ◌∙◌, ap, arith, to_z, of_z}
use Rattle.std.proofs.Math.IntN.{◌*ℤ◌}
use Rattle.std.proofs.lemmas.Int.{to_z-of_z}
use Rattle.hopf_ops.specs.Gathering.{AddsMultiple}
use Rattle.hopf_ops.proofs.Gathering.{adds_none, multiple_room, multiple_more}
use mir.Syntax.{w128}
use Rattle.hopf_ops.proofs.gather.push_multiple.Goals as goal

pub loop-at-init : goal.loop-at-init
loop-at-init c = adds_none _ _ _

pub times-multiple-requires : goal.times-multiple-requires
times-multiple-requires c =
    let here : c.loop-at.at < length c.args.by.now.terms = omega (arith, c.len-at-end.ensures.value, c.loop-at-test.true) in
    let num = to_z-of_z w128 c.args.num c.ranges.num in
    let other = to_z-of_z w128 c.num_at.result (record { sfits = c.num_at.type_inv }) ∙ c.num_at.ensures.value in
    let so_far = subst (λ n. AddsMultiple c.args.out.now n c.args.by.now.terms c.loop-at.at c.loop-at.out) num c.loop-at.invariant in
    rw (num, other) (omega (arith, multiple_room c.args.out.now c.args.num c.args.by.now.terms c.loop-at.at c.loop-at.out so_far here c.requires.room))

pub push-requires-clause-rank : goal.push-requires-clause-rank
push-requires-clause-rank c =
    let here : c.loop-at.at < length c.args.by.now.terms = omega (arith, c.len-at-end.ensures.value, c.loop-at-test.true) in
    ap (λ k. length k) (c.key_at.ensures) ∙ c.len-at-end.ensures.canonical.ordered.ranks c.loop-at.at here ∙ c.requires.rank ∙ sym c.loop-at.invariant.rank

pub push-requires-clause-room : goal.push-requires-clause-room
push-requires-clause-room c =
    let here : c.loop-at.at < length c.args.by.now.terms = omega (arith, c.len-at-end.ensures.value, c.loop-at-test.true) in
    let num = to_z-of_z w128 c.args.num c.ranges.num in
    let other = to_z-of_z w128 c.num_at.result (record { sfits = c.num_at.type_inv }) ∙ c.num_at.ensures.value in
    let product = to_z-of_z w128 c.times-multiple.result (record { sfits = c.times-multiple.type_inv }) ∙ c.times-multiple.ensures ∙ (λ i. num i *ℤ other i) in
    let so_far = subst (λ n. AddsMultiple c.args.out.now n c.args.by.now.terms c.loop-at.at c.loop-at.out) num c.loop-at.invariant in
    rw product (multiple_room c.args.out.now c.args.num c.args.by.now.terms c.loop-at.at c.loop-at.out so_far here c.requires.room)

pub loop-at-preserved : goal.loop-at-preserved
loop-at-preserved c =
    let here : c.loop-at.at < length c.args.by.now.terms = omega (arith, c.len-at-end.ensures.value, c.loop-at-test.true) in
    let other = to_z-of_z w128 c.num_at.result (record { sfits = c.num_at.type_inv }) ∙ c.num_at.ensures.value in
    let product = to_z-of_z w128 c.times-multiple.result (record { sfits = c.times-multiple.type_inv }) ∙ c.times-multiple.ensures ∙ ap (λ z. to_z w128 (of_z w128 c.args.num) *ℤ z) other in
    multiple_more c.args.out.now (to_z w128 (of_z w128 c.args.num)) c.args.by.now.terms c.loop-at.at c.loop-at.out c.loop-at.invariant here
    c.push.new.self _ c.key_at.result.now product (c.key_at.ensures)
    c.in_ok-push.ensures.same_rank c.in_ok-push.ensures.same_den c.in_ok-push.ensures.adds c.in_ok-push.ensures.norm

pub returns : goal.returns
returns c =
    let all : c.loop-at.at ≡ length c.args.by.now.terms = omega (arith, c.len-at-end.ensures.value) in
    let num = to_z-of_z w128 c.args.num c.ranges.num in
    subst (λ i. AddsMultiple c.args.out.now c.args.num c.args.by.now.terms i c.loop-at.out) all
    (subst (λ n. AddsMultiple c.args.out.now n c.args.by.now.terms c.loop-at.at c.loop-at.out) num c.loop-at.invariant)
