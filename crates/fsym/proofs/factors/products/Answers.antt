use Rattle.std.proofs.Common.{◌≡◌, ◌+◌, ℕ, length, subst, arith}
use Rattle.linear_combos.specs.CodeLists.{ListsIndices}
use Rattle.realisations.specs.IndexKinds.{by_tableau}
use Rattle.fsym.proofs.Products.{all_of_both}
use Rattle.fsym.proofs.factors.products.Goals as goal

pub push_products-requires : goal.push_products-requires
push_products-requires c =
    let size : c.len.result + c.len-2.result ≡ length c.args.left.now + length c.args.right.now = omega (arith, c.len.ensures.value, c.len-2.ensures.value) in
    all_of_both c.args.left.now c.args.right.now c.in_ok-codes.codes (omega (arith, c.requires)) (subst (λ (n : ℕ). ListsIndices by_tableau n c.in_ok-codes.codes) size c.in_ok-codes.ensures)
