use Rattle.std.proofs.Common.{[], ◌∷◌}
use Rattle.std.specs.List.{sum}
use Rattle.std.proofs.lemmas.Result.{IfOk-weaker}
use Rattle.basis_names.specs.declared.bases.BasisId.TheVariants.{QsymM}
use Rattle.index_rules.specs.Rules.{IsAnswerWithin}
use Rattle.linear_combos.specs.Combos.{IsSumOfTerms}
use Rattle.product_laws.specs.Products.{terms_of_codes}
use Rattle.realisations.specs.Codes.{Code}
use Rattle.realisations.specs.Readings.{applied, commute, element}
use Rattle.commuting_images.proofs.ImageAnswers.{monomial_image}
use Rattle.commuting_images.proofs.quasisymmetric.QsymMCommutingImage.image.Goals as goal

pub returns : goal.returns
returns c =
    let parts : Code = c.args.code.now in
    IfOk-weaker c.one_element.result (IsSumOfTerms 1 (terms_of_codes (parts ∷ []))) (IsAnswerWithin 0 (QsymM ∷ []) (sum parts) (applied commute 0 (element QsymM parts)))
    (λ out one. monomial_image parts out c.requires.index one)
    c.one_element.ensures
