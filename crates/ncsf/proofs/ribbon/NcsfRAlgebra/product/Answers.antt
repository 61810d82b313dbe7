use Rattle.std.proofs.Common.{◌+◌, [], ◌∷◌}
use Rattle.std.specs.List.{sum}
use Rattle.std.proofs.lemmas.Result.{IfOk-weaker}
use Rattle.basis_names.specs.declared.bases.BasisId.TheVariants.{NcsfR}
use Rattle.index_rules.specs.Rules.{IsAnswerWithin}
use Rattle.linear_combos.specs.Combos.{IsSumOfTerms}
use Rattle.product_laws.specs.Products.{terms_of_codes}
use Rattle.product_laws.specs.Ribbons.{ribbon_products}
use Rattle.realisations.specs.Codes.{Code}
use Rattle.realisations.specs.Readings.{element, product}
use Rattle.ncsf.proofs.Growth.{ribbon_product}
use Rattle.ncsf.proofs.ribbon.NcsfRAlgebra.product.Goals as goal

pub returns : goal.returns
returns c =
    let j : Code = c.args.left.now in
    let k : Code = c.args.right.now in
    IfOk-weaker c.concatenated_both_ways.result
    (IsSumOfTerms 1 (terms_of_codes (ribbon_products j k)))
    (IsAnswerWithin 1 (NcsfR ∷ []) (sum j + sum k) (product (element NcsfR j) (element NcsfR k)))
    (λ out sums. ribbon_product j k out c.requires.left c.requires.right sums)
    c.concatenated_both_ways.ensures
