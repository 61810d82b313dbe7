use Rattle.std.proofs.Common.{◌≡◌, length, subst, arith}
use Rattle.linear_combos.specs.Merges.{AreProducts}
use Rattle.linear_combos.proofs.Tensors.{row_added}
use Rattle.linear_combos.proofs.tensor.add_row.Goals as goal

pub returns-clause-products : goal.returns-clause-products
returns-clause-products c =
    let last : c.loop-right.right ≡ length c.args.b.now.terms = omega (arith, c.len-right-end.ensures.value) in
    row_added _ _ _ _ (subst (λ j. AreProducts c.args.a.now.terms c.args.b.now.terms c.args.left j c.loop-right.tensor.terms) last c.loop-right.invariant.products) c.requires.in_left
