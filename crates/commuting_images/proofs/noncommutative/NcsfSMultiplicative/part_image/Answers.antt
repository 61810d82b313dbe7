use Rattle.std.proofs.Common.{◌≡◌, ℕ, [], ◌∷◌, ◌++◌, IfOk, ◌∙◌, ap, subst}
use Rattle.std.specs.List.{sum}
use Rattle.std.proofs.lemmas.Result.{IfOk-weaker}
use Rattle.basis_names.specs.declared.bases.BasisId.TheVariants.{NcsfS, QsymF, QsymM}
use Rattle.index_rules.specs.Rules.{IsAnswerWithin}
use Rattle.realisations.specs.Codes.{Code}
use Rattle.realisations.specs.Readings.{element}
use Rattle.commuting_images.specs.ImagesOfParts.{image_of}
use Rattle.commuting_images.proofs.NoncommutativeImages.{complete_part}
use Rattle.commuting_images.proofs.noncommutative.NcsfSMultiplicative.part_image.Goals as goal

pub returns : goal.returns
returns c =
    let part : ℕ = c.args.part in
    let is_part : c.with-code.result ≡ part ∷ [] = c.with-code.ensures ∙ ap (λ (v : Code). v ++ part ∷ []) c.empty-none.ensures in
    IfOk-weaker c.change.result (IsAnswerWithin 1 (QsymM ∷ []) (sum (part ∷ [])) (element QsymF (part ∷ []))) (IsAnswerWithin 5 (QsymM ∷ []) (sum (part ∷ [])) (image_of NcsfS (part ∷ [])))
    (λ out is. complete_part part out is)
    (subst (λ (v : Code). IfOk c.change.result (IsAnswerWithin 1 (QsymM ∷ []) (sum v) (element QsymF v))) is_part c.change.ensures)
