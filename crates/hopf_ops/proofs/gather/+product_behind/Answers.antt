use Rattle.std.proofs.Common.{◌≡◌, ◌+◌, ◌<◌, ◌≤◌, ◌∷◌, length, drop, arith, rules}
use Rattle.std.proofs.lemmas.List.{length-drop}
use Rattle.std.proofs.lemmas.Result.{IfOk-weaker}
use Rattle.realisations.specs.Combinations.{Combination, IsCanonical}
use Rattle.linear_combos.specs.Combos.{IsTensor}
use Rattle.basis_routes.proofs.Degrees.{least_limit-small}
use Rattle.hopf_ops.specs.Gathering.{IsProductOfKeys}
use Rattle.hopf_ops.proofs.ProductsOfKeys.{other_factors, one_component, more_components, norms_room, factors_split, product_joined}
use Rattle.hopf_ops.proofs.gather.+product_behind.Goals as goal

pub returns-then-component-rank : goal.returns-then-component-rank
returns-then-component-rank t c =
    let split = factors_split c.args.bases.now c.args.left.now c.args.right.now c.args.skipped c.requires.more c.requires.keys c.at.result c.code.result.now c.code-2.result.now c.at.ensures c.code.ensures c.code-2.ensures in
    let last : length (drop (c.args.skipped + 1) c.args.bases.now) ≡ 0 = omega (arith, length-drop (c.args.skipped + 1) c.args.bases.now, c.len-rank.ensures.value) in
    product_joined c.args.bases.now c.args.left.now c.args.right.now c.args.skipped c.requires.more c.requires.keys c.at.result c.code.result.now c.code-2.result.now c.at.ensures c.code.ensures c.code-2.ensures c.in_ok-first.first
    (one_component c.at.result _ c.code.result.now c.code-2.result.now _ _ c.in_ok-first.first last split c.in_ok-first.ensures)

pub product_behind-requires : goal.product_behind-requires
product_behind-requires t c =
    let split = factors_split c.args.bases.now c.args.left.now c.args.right.now c.args.skipped c.requires.more c.requires.keys c.at.result c.code.result.now c.code-2.result.now c.at.ensures c.code.ensures c.code-2.ensures in
    let more : c.args.skipped + 1 < length c.args.bases.now = omega (arith, c.len-rank.ensures.value) in
    let some : 1 ≤ length (drop (c.args.skipped + 1) c.args.bases.now) = omega (arith, length-drop (c.args.skipped + 1) c.args.bases.now) in
    (search rules, (more, other_factors c.at.result (drop (c.args.skipped + 1) c.args.bases.now) c.code.result.now c.code-2.result.now _ _ split some))

pub tensor_with_room-requires-clause-norms : goal.tensor_with_room-requires-clause-norms
tensor_with_room-requires-clause-norms t c =
    let split = factors_split c.args.bases.now c.args.left.now c.args.right.now c.args.skipped c.requires.more c.requires.keys c.at.result c.code.result.now c.code-2.result.now c.at.ensures c.code.ensures c.code-2.ensures in
    norms_room _ _ _ _ c.in_ok-first.ensures.small c.in_ok-others.ensures.small (omega (arith, split.degree, least_limit-small (c.at.result ∷ drop (c.args.skipped + 1) c.args.bases.now)))

pub returns : goal.returns
returns t c =
    IfOk-weaker c.tensor_with_room.result
    (λ (p : Combination). IsCanonical p.rank p.den p.terms × IsTensor c.in_ok-first.first c.in_ok-others.others p)
    (IsProductOfKeys (drop c.args.skipped c.args.bases.now) (drop c.args.skipped c.args.left.now) (drop c.args.skipped c.args.right.now))
    (λ p h. product_joined c.args.bases.now c.args.left.now c.args.right.now c.args.skipped c.requires.more c.requires.keys c.at.result c.code.result.now c.code-2.result.now c.at.ensures c.code.ensures c.code-2.ensures p
    (more_components c.at.result (drop (c.args.skipped + 1) c.args.bases.now) c.code.result.now c.code-2.result.now _ _ c.in_ok-first.first c.in_ok-others.others p c.in_ok-first.ensures c.in_ok-others.ensures h.1 h.0))
    c.tensor_with_room.ensures
