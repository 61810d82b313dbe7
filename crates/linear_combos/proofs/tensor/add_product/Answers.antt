use Rattle.std.proofs.Common.{◌++◌, length, ◌∙◌, ap, subst, sym, arith}
use Rattle.std.proofs.lemmas.Int.{to_z-of_z}
use Rattle.std.proofs.lemmas.Result.{on_ok_weaker}
use Rattle.realisations.specs.Combinations.{term_at}
use Rattle.linear_combos.specs.Combos.{IsGapFor}
use Rattle.linear_combos.proofs.Tensors.{product_gap, product_room, product_added}
use mir.Syntax.{w128}
use Rattle.linear_combos.proofs.tensor.add_product.Goals as goal

pub product_at-num-requires-clause-room : goal.product_at-num-requires-clause-room
product_at-num-requires-clause-room c = omega (arith, product_room _ _ _ _ _ c.requires.products c.requires.in_left c.requires.in_right c.requires.factors.room)

pub push-requires-clause-last : goal.push-requires-clause-last
push-requires-clause-last c =
    let key = c.followed_by-key.ensures ∙ ap (λ k. k ++ c.key_at-2.result.now) c.key_at.ensures ∙ ap (λ k. (term_at c.args.a.now.terms c.args.left).1 ++ k) c.key_at-2.ensures in
    subst (λ k. IsGapFor c.args.tensor.now.terms k (length c.args.tensor.now.terms)) (sym key)
    (product_gap _ _ _ _ _ c.requires.products c.requires.in_left c.requires.in_right _ _ c.requires.factors.first c.requires.factors.second)

pub push-requires-clause-room : goal.push-requires-clause-room
push-requires-clause-room c =
    let num = to_z-of_z w128 c.product_at-num.result (record { sfits = c.product_at-num.type_inv }) ∙ c.product_at-num.ensures in
    rw num (product_room _ _ _ _ _ c.requires.products c.requires.in_left c.requires.in_right c.requires.factors.room)

pub returns-clause-products : goal.returns-clause-products
returns-clause-products c =
    let num = to_z-of_z w128 c.product_at-num.result (record { sfits = c.product_at-num.type_inv }) ∙ c.product_at-num.ensures in
    let key = c.followed_by-key.ensures ∙ ap (λ k. k ++ c.key_at-2.result.now) c.key_at.ensures ∙ ap (λ k. (term_at c.args.a.now.terms c.args.left).1 ++ k) c.key_at-2.ensures in
    on_ok_weaker _ (λ adds. product_added _ _ _ _ _ c.requires.products c.requires.in_left c.requires.in_right c.push.new.self.terms _ _ num key adds c.push.ensures.norm) c.push.ensures.adds
