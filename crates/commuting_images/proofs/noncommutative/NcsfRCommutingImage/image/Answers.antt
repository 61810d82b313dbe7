use Rattle.std.proofs.Common.{[], ◌∷◌}
use Rattle.std.specs.List.{sum}
use Rattle.std.proofs.lemmas.Result.{IfOk-weaker}
use Rattle.basis_names.specs.declared.bases.BasisId.TheVariants.{NcsfR, QsymM}
use Rattle.index_rules.specs.Rules.{IsAnswerWithin}
use Rattle.realisations.specs.Codes.{Code}
use Rattle.commuting_images.specs.ImagesOfParts.{IsOfAnyNorm, image_of}
use Rattle.commuting_images.proofs.NoncommutativeImages.{ribbon_image}
use Rattle.commuting_images.proofs.noncommutative.NcsfRCommutingImage.image.Goals as goal

pub returns-then-len-sum : goal.returns-then-len-sum
returns-then-len-sum c =
    let code : Code = c.args.code.now in
    IfOk-weaker c.image_over.result (IsOfAnyNorm (sum code) (image_of NcsfR code)) (IsAnswerWithin 4 (QsymM ∷ []) (sum code) (image_of NcsfR code))
    (λ out is. ribbon_image code c.requires out is) c.image_over.ensures

pub returns : goal.returns
returns c =
    let code : Code = c.args.code.now in
    IfOk-weaker c.image_over-2.result (IsOfAnyNorm (sum code) (image_of NcsfR code)) (IsAnswerWithin 4 (QsymM ∷ []) (sum code) (image_of NcsfR code))
    (λ out is. ribbon_image code c.requires out is) c.image_over-2.ensures
