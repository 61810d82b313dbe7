use Rattle.std.proofs.Common.{arith}
use Rattle.std.specs.Prelude.{IfOk}
use Rattle.std.proofs.lemmas.Result.{IfOk-weaker}
use Rattle.linear_combos.specs.Combos.{IsSumOfTerms}
use Rattle.product_laws.specs.Products.{terms_of_codes}
use Rattle.realisations.specs.Codes.{Code}
use Rattle.fsym.proofs.Products.{IsTableauProductWithin, products_within}
use Rattle.fsym.proofs.recording.FsymSAlgebra.product.Goals as goal

pub returns : goal.returns
returns c =
    let s : Code = c.args.left.now in
    let t : Code = c.args.right.now in
    let is : IfOk c.signed_sum.result (IsSumOfTerms 1 (terms_of_codes c.in_ok-codes.codes)) = c.signed_sum.ensures in
    IfOk-weaker c.signed_sum.result (IsSumOfTerms 1 (terms_of_codes c.in_ok-codes.codes)) (IsTableauProductWithin s t)
    (λ out sum. products_within s t (omega (arith, c.requires.degree)) c.in_ok-codes.codes c.in_ok-codes.ensures out sum)
    is
