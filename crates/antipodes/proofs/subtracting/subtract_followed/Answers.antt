use Rattle.std.proofs.Common.{◌≡◌, ◌<◌, [], ◌∷◌, length, subst, ◌∙◌, ap, arith, to_z, of_z}
use Rattle.std.proofs.Math.IntN.{◌*ℤ◌, neg_ℤ}
use mir.Syntax.{w128}
use Rattle.std.proofs.lemmas.Int.{to_z-of_z}
use Rattle.antipode_laws.specs.Recursion.{first_code}
use Rattle.antipodes.specs.Subtracting.{SubtractsFollowed}
use Rattle.antipodes.proofs.SubtractedTerms.{subtracts_none, term_room, subtracts_more, abs-neg, first_read}
use Rattle.realisations.specs.Codes.{Code}
use Rattle.realisations.specs.Combinations.{term_at}
use Rattle.antipodes.proofs.subtracting.subtract_followed.Goals as goal

pub loop-at-init : goal.loop-at-init
loop-at-init c = subtracts_none _ _ _ _

pub minus_times-multiple-requires : goal.minus_times-multiple-requires
minus_times-multiple-requires c =
    let here : c.loop-at.at < length c.args.first.now.terms = omega (arith, c.len-at-end.ensures.value, c.loop-at-test.true) in
    let num = to_z-of_z w128 c.args.num c.ranges.num in
    let other = to_z-of_z w128 c.num_at.result (record { sfits = c.num_at.type_inv }) ∙ c.num_at.ensures.value in
    let so_far = subst (λ n. SubtractsFollowed c.args.out.now n c.args.second.now c.args.first.now.terms c.loop-at.at c.loop-at.out) num c.loop-at.invariant in
    rw (num, other) (omega (arith, term_room c.args.out.now c.args.num c.args.second.now c.args.first.now.terms c.loop-at.at c.loop-at.out so_far here c.requires.room))

pub code-requires-clause-last : goal.code-requires-clause-last
code-requires-clause-last c =
    let here : c.loop-at.at < length c.args.first.now.terms = omega (arith, c.len-at-end.ensures.value, c.loop-at-test.true) in
    let one : length c.key_at.result.now ≡ 1 = ap (λ k. length k) c.key_at.ensures ∙ c.len-at-end.ensures.canonical.ordered.ranks c.loop-at.at here ∙ c.requires.codes in
    omega (arith, one)

pub push-requires-clause-room : goal.push-requires-clause-room
push-requires-clause-room c =
    let here : c.loop-at.at < length c.args.first.now.terms = omega (arith, c.len-at-end.ensures.value, c.loop-at-test.true) in
    let num = to_z-of_z w128 c.args.num c.ranges.num in
    let other = to_z-of_z w128 c.num_at.result (record { sfits = c.num_at.type_inv }) ∙ c.num_at.ensures.value in
    let multiple = to_z-of_z w128 c.minus_times-multiple.result (record { sfits = c.minus_times-multiple.type_inv }) ∙ c.minus_times-multiple.ensures ∙ (λ i. neg_ℤ (num i *ℤ other i)) in
    let so_far = subst (λ n. SubtractsFollowed c.args.out.now n c.args.second.now c.args.first.now.terms c.loop-at.at c.loop-at.out) num c.loop-at.invariant in
    rw multiple
    (omega (
      arith,
      abs-neg (c.args.num *ℤ (term_at c.args.first.now.terms c.loop-at.at).0),
      term_room c.args.out.now c.args.num c.args.second.now c.args.first.now.terms c.loop-at.at c.loop-at.out so_far here c.requires.room,
    ))

pub loop-at-preserved : goal.loop-at-preserved
loop-at-preserved c =
    let here : c.loop-at.at < length c.args.first.now.terms = omega (arith, c.len-at-end.ensures.value, c.loop-at-test.true) in
    let other = to_z-of_z w128 c.num_at.result (record { sfits = c.num_at.type_inv }) ∙ c.num_at.ensures.value in
    let multiple = to_z-of_z w128 c.minus_times-multiple.result (record { sfits = c.minus_times-multiple.type_inv }) ∙ c.minus_times-multiple.ensures ∙ ap (λ z. neg_ℤ (to_z w128 (of_z w128 c.args.num) *ℤ z)) other in
    let one : length c.key_at.result.now ≡ 1 = ap (λ k. length k) c.key_at.ensures ∙ c.len-at-end.ensures.canonical.ordered.ranks c.loop-at.at here ∙ c.requires.codes in
    let code : c.code.result.now ≡ first_code (term_at c.args.first.now.terms c.loop-at.at).1 = first_read c.key_at.result.now c.code.result.now one c.code.ensures ∙ ap first_code c.key_at.ensures in
    subtracts_more c.args.out.now (to_z w128 (of_z w128 c.args.num)) c.args.second.now c.args.first.now.terms c.loop-at.at c.loop-at.out c.loop-at.invariant here
    c.push.new.self _ c.two-key.result multiple (c.two-key.ensures ∙ ap (λ (v : Code). v ∷ c.args.second.now ∷ []) code)
    c.in_ok-push.ensures.same_rank c.in_ok-push.ensures.same_den c.in_ok-push.ensures.adds c.in_ok-push.ensures.norm

pub returns : goal.returns
returns c =
    let all : c.loop-at.at ≡ length c.args.first.now.terms = omega (arith, c.len-at-end.ensures.value) in
    let num = to_z-of_z w128 c.args.num c.ranges.num in
    subst (λ i. SubtractsFollowed c.args.out.now c.args.num c.args.second.now c.args.first.now.terms i c.loop-at.out) all
    (subst (λ n. SubtractsFollowed c.args.out.now n c.args.second.now c.args.first.now.terms c.loop-at.at c.loop-at.out) num c.loop-at.invariant)
