use Rattle.std.proofs.Common.{ℕ, [], ◌∷◌, IfOk, replicate, subst}
use Rattle.std.specs.List.{sum}
use Rattle.std.proofs.lemmas.Result.{IfOk-weaker}
use Rattle.basis_names.specs.declared.bases.BasisId.TheVariants.{NcsfL, QsymM}
use Rattle.index_rules.specs.Rules.{IsAnswerWithin}
use Rattle.linear_combos.specs.Combos.{IsSumOfTerms}
use Rattle.product_laws.specs.Products.{terms_of_codes}
use Rattle.realisations.specs.Codes.{Code}
use Rattle.commuting_images.specs.ImagesOfParts.{image_of}
use Rattle.commuting_images.proofs.NoncommutativeImages.{elementary_part}
use Rattle.commuting_images.proofs.noncommutative.NcsfLMultiplicative.part_image.Goals as goal

pub returns : goal.returns
returns c =
    let part : ℕ = c.args.part in
    IfOk-weaker c.one_element.result (IsSumOfTerms 1 (terms_of_codes (replicate part 1 ∷ []))) (IsAnswerWithin 5 (QsymM ∷ []) (sum (part ∷ [])) (image_of NcsfL (part ∷ [])))
    (λ out is. elementary_part part out is)
    (subst (λ (v : Code). IfOk c.one_element.result (IsSumOfTerms 1 (terms_of_codes (v ∷ [])))) c.ones.ensures c.one_element.ensures)
