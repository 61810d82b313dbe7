use Rattle.std.proofs.Common.{◌≡◌, ◌-◌, ◌<◌, length, subst, ◌∙◌, ap, arith, to_z, of_z}
use Rattle.std.proofs.Math.IntN.{◌*ℤ◌}
use mir.Syntax.{w128}
use Rattle.std.proofs.lemmas.Int.{to_z-of_z}
use Rattle.change_laws.specs.Lifts.{replaced}
use Rattle.index_rules.specs.Lifting.{AddsReplaced}
use Rattle.index_rules.proofs.AnswersPutIn.{adds_none, term_room, adds_more}
use Rattle.index_rules.proofs.ReplacedKeys.{length-replaced}
use Rattle.index_rules.proofs.lifting.add_replaced.Goals as goal

pub loop-at-init : goal.loop-at-init
loop-at-init c = adds_none _ _ _ _ _

pub times-multiple-requires : goal.times-multiple-requires
times-multiple-requires c =
    let here : c.loop-at.at < length c.args.by.now.terms = omega (arith, c.len-at-end.ensures.value, c.loop-at-test.true) in
    let num = to_z-of_z w128 c.args.num c.ranges.num in
    let other = to_z-of_z w128 c.num_at.result (record { sfits = c.num_at.type_inv }) ∙ c.num_at.ensures.value in
    let so_far = subst (λ n. AddsReplaced c.args.out.now n (c.args.component - 1) c.args.key.now c.args.by.now.terms c.loop-at.at c.loop-at.out) num c.loop-at.invariant in
    rw (num, other) (omega (arith, term_room c.args.out.now c.args.num (c.args.component - 1) c.args.key.now c.args.by.now.terms c.loop-at.at c.loop-at.out so_far here c.requires.room))

pub push-requires-clause-rank : goal.push-requires-clause-rank
push-requires-clause-rank c =
    let here : c.loop-at.at < length c.args.by.now.terms = omega (arith, c.len-at-end.ensures.value, c.loop-at-test.true) in
    let codes : length c.key_at.result.now ≡ c.args.by.now.rank = ap (λ k. length k) c.key_at.ensures ∙ c.len-at-end.ensures.canonical.ordered.ranks c.loop-at.at here in
    let put = ap (λ k. length k) c.replaced-codes.ensures in
    omega (arith, codes, put, length-replaced (c.args.component - 1) c.key_at.result.now c.args.key.now (omega (arith, c.requires.first, c.requires.last)), c.requires.rank, c.loop-at.invariant.rank)

pub push-requires-clause-room : goal.push-requires-clause-room
push-requires-clause-room c =
    let here : c.loop-at.at < length c.args.by.now.terms = omega (arith, c.len-at-end.ensures.value, c.loop-at-test.true) in
    let num = to_z-of_z w128 c.args.num c.ranges.num in
    let other = to_z-of_z w128 c.num_at.result (record { sfits = c.num_at.type_inv }) ∙ c.num_at.ensures.value in
    let product = to_z-of_z w128 c.times-multiple.result (record { sfits = c.times-multiple.type_inv }) ∙ c.times-multiple.ensures ∙ (λ i. num i *ℤ other i) in
    let so_far = subst (λ n. AddsReplaced c.args.out.now n (c.args.component - 1) c.args.key.now c.args.by.now.terms c.loop-at.at c.loop-at.out) num c.loop-at.invariant in
    rw product (term_room c.args.out.now c.args.num (c.args.component - 1) c.args.key.now c.args.by.now.terms c.loop-at.at c.loop-at.out so_far here c.requires.room)

pub loop-at-preserved : goal.loop-at-preserved
loop-at-preserved c =
    let here : c.loop-at.at < length c.args.by.now.terms = omega (arith, c.len-at-end.ensures.value, c.loop-at-test.true) in
    let other = to_z-of_z w128 c.num_at.result (record { sfits = c.num_at.type_inv }) ∙ c.num_at.ensures.value in
    let product = to_z-of_z w128 c.times-multiple.result (record { sfits = c.times-multiple.type_inv }) ∙ c.times-multiple.ensures ∙ ap (λ z. to_z w128 (of_z w128 c.args.num) *ℤ z) other in
    adds_more c.args.out.now (to_z w128 (of_z w128 c.args.num)) (c.args.component - 1) c.args.key.now c.args.by.now.terms c.loop-at.at c.loop-at.out c.loop-at.invariant here
    c.push.new.self _ c.replaced-codes.result product (c.replaced-codes.ensures ∙ ap (λ k. replaced (c.args.component - 1) k c.args.key.now) c.key_at.ensures)
    c.in_ok-push.ensures.same_rank c.in_ok-push.ensures.same_den c.in_ok-push.ensures.adds c.in_ok-push.ensures.norm

pub returns : goal.returns
returns c =
    let all : c.loop-at.at ≡ length c.args.by.now.terms = omega (arith, c.len-at-end.ensures.value) in
    let num = to_z-of_z w128 c.args.num c.ranges.num in
    subst (λ i. AddsReplaced c.args.out.now c.args.num (c.args.component - 1) c.args.key.now c.args.by.now.terms i c.loop-at.out) all
    (subst (λ n. AddsReplaced c.args.out.now n (c.args.component - 1) c.args.key.now c.args.by.now.terms c.loop-at.at c.loop-at.out) num c.loop-at.invariant)
