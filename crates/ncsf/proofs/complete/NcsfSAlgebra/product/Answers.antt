use Rattle.std.proofs.Common.{◌+◌, [], ◌∷◌, ◌++◌}
use Rattle.std.specs.List.{sum}
use Rattle.std.proofs.lemmas.Result.{IfOk-weaker}
use Rattle.basis_names.specs.declared.bases.BasisId.TheVariants.{NcsfS}
use Rattle.index_rules.specs.Rules.{IsAnswerWithin}
use Rattle.linear_combos.specs.Combos.{IsSumOfTerms}
use Rattle.product_laws.specs.Products.{terms_of_codes}
use Rattle.realisations.specs.Codes.{Code}
use Rattle.realisations.specs.Readings.{element, product}
use Rattle.ncsf.proofs.Growth.{complete_product}
use Rattle.ncsf.proofs.complete.NcsfSAlgebra.product.Goals as goal

pub returns : goal.returns
returns c =
    let j : Code = c.args.left.now in
    let k : Code = c.args.right.now in
    IfOk-weaker c.concatenated.result
    (IsSumOfTerms 1 (terms_of_codes ((j ++ k) ∷ [])))
    (IsAnswerWithin 0 (NcsfS ∷ []) (sum j + sum k) (product (element NcsfS j) (element NcsfS k)))
    (λ out sums. complete_product j k out c.requires.left c.requires.right sums)
    c.concatenated.ensures
