use Rattle.std.proofs.Common.{◌≡◌, unsigned_abs, arith, ap, ◌∙◌}
use Rattle.std.specs.Int.{w128}
use Rattle.std.proofs.lemmas.Int.{to_z-of_z, to_z_pos}
use Rattle.hopf_num.proofs.SumsOfProducts.{products_have_room}
use Rattle.hopf_num.specs.declared.room.Need.TheVariants.{Sum}
use Rattle.hopf_num.proofs.fraction.common_numerator.Goals as goal

pub unwrap-requires : goal.unwrap-requires
unwrap-requires c =
    let left = to_z-of_z w128 c.args.left c.ranges.left in
    let right = to_z-of_z w128 c.args.right c.ranges.right in
    let left_factor = to_z_pos w128 c.args.left_factor c.requires.left_factor in
    let right_factor = to_z_pos w128 c.args.right_factor c.requires.right_factor in
    let left_size : c.unsigned_abs.result ≡ unsigned_abs c.args.left = c.unsigned_abs.ensures.value ∙ ap unsigned_abs left in
    let right_size : c.unsigned_abs-2.result ≡ unsigned_abs c.args.right = c.unsigned_abs-2.ensures.value ∙ ap unsigned_abs right in
    let room = c.in_ok-test.ensures 0 (Sum 0 0 0 0) (omega arith) in
    let have = products_have_room c.args.left c.args.right c.args.left_factor c.args.right_factor (rw (left_size, right_size) at room) in
    c.sum_of_products-sum.ensures.some.1 (rw (left, right, left_factor, right_factor) (have.left_fits, have.right_fits, have.sum_fits))

pub returns-clause-small : goal.returns-clause-small
returns-clause-small c =
    let left = to_z-of_z w128 c.args.left c.ranges.left in
    let right = to_z-of_z w128 c.args.right c.ranges.right in
    let left_factor = to_z_pos w128 c.args.left_factor c.requires.left_factor in
    let right_factor = to_z_pos w128 c.args.right_factor c.requires.right_factor in
    let left_size : c.unsigned_abs.result ≡ unsigned_abs c.args.left = c.unsigned_abs.ensures.value ∙ ap unsigned_abs left in
    let right_size : c.unsigned_abs-2.result ≡ unsigned_abs c.args.right = c.unsigned_abs-2.ensures.value ∙ ap unsigned_abs right in
    let room = c.in_ok-test.ensures 0 (Sum 0 0 0 0) (omega arith) in
    let have = products_have_room c.args.left c.args.right c.args.left_factor c.args.right_factor (rw (left_size, right_size) at room) in
    let exact = rw c.unwrap.ensures at c.sum_of_products-sum.ensures.exact in
    let value = rw (left, right, left_factor, right_factor) at exact in
    rw (to_z-of_z w128 c.unwrap.result (record { sfits = c.unwrap.type_inv }), value) have.small
