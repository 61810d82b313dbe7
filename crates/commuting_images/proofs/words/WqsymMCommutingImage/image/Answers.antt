use Rattle.std.proofs.Common.{[], ◌∷◌, length, subst}
use Rattle.std.proofs.lemmas.Result.{IfOk-weaker}
use Rattle.basis_names.specs.declared.bases.BasisId.TheVariants.{QsymM, WqsymM}
use Rattle.index_rules.specs.Rules.{IsAnswerWithin}
use Rattle.linear_combos.specs.Combos.{IsSumOfTerms}
use Rattle.product_laws.specs.Products.{terms_of_codes}
use Rattle.realisations.specs.Codes.{Code}
use Rattle.realisations.specs.Readings.{applied, commute, element}
use Rattle.commuting_images.proofs.ImageAnswers.{packed_image}
use Rattle.commuting_images.proofs.words.WqsymMCommutingImage.image.Goals as goal

pub returns : goal.returns
returns c =
    let u : Code = c.args.code.now in
    IfOk-weaker c.one_element.result (IsSumOfTerms 1 (terms_of_codes (c.evaluation-evaluation.result ∷ []))) (IsAnswerWithin 0 (QsymM ∷ []) (length u) (applied commute 0 (element WqsymM u)))
    (λ out one. packed_image u out c.requires.index (subst (λ (parts : Code). IsSumOfTerms 1 (terms_of_codes (parts ∷ [])) out) c.evaluation-evaluation.ensures one))
    c.one_element.ensures
