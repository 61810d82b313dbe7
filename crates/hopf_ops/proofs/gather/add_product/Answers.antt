use Rattle.std.proofs.Common.{◌∙◌, arith}
use Rattle.std.proofs.Math.IntN.{◌*ℤ◌}
use Rattle.std.proofs.lemmas.Int.{to_z-of_z}
use Rattle.std.proofs.lemmas.Result.{on_ok_weaker}
use Rattle.realisations.specs.Combinations.{term_at}
use Rattle.hopf_ops.specs.Gathering.{IsProductOfKeys}
use Rattle.hopf_ops.proofs.Gathering.{factor_keys, numerators_room, product_room, product_gathered}
use mir.Syntax.{w128}
use Rattle.hopf_ops.proofs.gather.add_product.Goals as goal

pub times-num-requires : goal.times-num-requires
times-num-requires c =
    let left = to_z-of_z w128 c.num_at.result (record { sfits = c.num_at.type_inv }) ∙ c.num_at.ensures.value in
    let right = to_z-of_z w128 c.num_at-2.result (record { sfits = c.num_at-2.type_inv }) ∙ c.num_at-2.ensures.value in
    rw (left, right) (omega (arith, numerators_room c.args.bases.now c.args.a.now c.args.b.now c.requires.factors c.args.left c.args.right c.requires.in_left c.requires.in_right))

pub product_of_keys-requires-clause-keys : goal.product_of_keys-requires-clause-keys
product_of_keys-requires-clause-keys c =
    rw (c.key_at.ensures, c.key_at-2.ensures) (factor_keys c.args.bases.now c.args.a.now c.args.b.now c.requires.factors c.args.left c.args.right c.requires.in_left c.requires.in_right)

pub push_multiple-requires-clause-room : goal.push_multiple-requires-clause-room
push_multiple-requires-clause-room c =
    let left = to_z-of_z w128 c.num_at.result (record { sfits = c.num_at.type_inv }) ∙ c.num_at.ensures.value in
    let right = to_z-of_z w128 c.num_at-2.result (record { sfits = c.num_at-2.type_inv }) ∙ c.num_at-2.ensures.value in
    let num = to_z-of_z w128 c.times-num.result (record { sfits = c.times-num.type_inv }) ∙ c.times-num.ensures ∙ (λ i. left i *ℤ right i) in
    let is : IsProductOfKeys c.args.bases.now ((term_at c.args.a.now.terms c.args.left).1) ((term_at c.args.b.now.terms c.args.right).1) c.in_ok-product.product =
    rw (c.key_at.ensures, c.key_at-2.ensures) at c.in_ok-product.ensures in
    rw num (product_room c.args.bases.now c.args.a.now c.args.b.now c.requires.factors c.args.left c.args.right c.requires.in_left c.requires.in_right c.args.out.now c.requires.gathered _ is)

pub returns : goal.returns
returns c =
    let left = to_z-of_z w128 c.num_at.result (record { sfits = c.num_at.type_inv }) ∙ c.num_at.ensures.value in
    let right = to_z-of_z w128 c.num_at-2.result (record { sfits = c.num_at-2.type_inv }) ∙ c.num_at-2.ensures.value in
    let num = to_z-of_z w128 c.times-num.result (record { sfits = c.times-num.type_inv }) ∙ c.times-num.ensures ∙ (λ i. left i *ℤ right i) in
    let is : IsProductOfKeys c.args.bases.now ((term_at c.args.a.now.terms c.args.left).1) ((term_at c.args.b.now.terms c.args.right).1) c.in_ok-product.product =
    rw (c.key_at.ensures, c.key_at-2.ensures) at c.in_ok-product.ensures in
    on_ok_weaker _
    (λ adds. product_gathered c.args.bases.now c.args.a.now c.args.b.now c.requires.factors c.args.left c.args.right c.requires.in_left c.requires.in_right c.args.out.now c.requires.gathered _ is
    c.push_multiple.new.out (rw num at adds))
    c.push_multiple.ensures
