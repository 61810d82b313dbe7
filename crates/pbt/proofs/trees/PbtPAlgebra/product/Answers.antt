use Rattle.std.proofs.Common.{ap, arith, length}
use Rattle.std.specs.Prelude.{IfOk}
use Rattle.std.proofs.lemmas.Result.{IfOk-weaker}
use Rattle.basis_representatives.proofs.TreeCodes.{length-tree_code}
use Rattle.binary_trees.specs.Shapes.{shape_of}
use Rattle.linear_combos.specs.Combos.{IsSumOfTerms}
use Rattle.product_laws.specs.Products.{terms_of_codes}
use Rattle.realisations.specs.Codes.{Code}
use Rattle.pbt.proofs.Products.{IsTreeProductWithin, products_within}
use Rattle.pbt.proofs.trees.PbtPAlgebra.product.Goals as goal

pub over-requires : goal.over-requires
over-requires c =
    let first = c.in_ok-first.ensures in
    let second = c.in_ok-second.ensures in
    omega (
      arith,
      c.requires.degree,
      ap length first.same,
      ap length second.same,
      length-tree_code (shape_of c.in_ok-first.first),
      length-tree_code (shape_of c.in_ok-second.second),
    )

pub returns : goal.returns
returns c =
    let s : Code = c.args.left.now in
    let t : Code = c.args.right.now in
    let first = c.in_ok-first.ensures in
    let second = c.in_ok-second.ensures in
    let is : IfOk c.signed_sum.result (IsSumOfTerms 1 (terms_of_codes c.in_ok-codes.codes)) = c.signed_sum.ensures in
    IfOk-weaker c.signed_sum.result (IsSumOfTerms 1 (terms_of_codes c.in_ok-codes.codes)) (IsTreeProductWithin s t)
    (λ out sum. products_within s t (shape_of c.in_ok-first.first) (shape_of c.in_ok-second.second) c.in_ok-codes.codes out first.same second.same (omega (arith, c.requires.degree)) c.in_ok-codes.ensures sum)
    is
