use Rattle.std.proofs.Common.{[], ◌∷◌, ◌∙◌, ap, arith, length, subst, sym}
use Rattle.std.specs.List.{sum}
use Rattle.std.proofs.lemmas.Result.{IfOk-weaker}
use Rattle.basis_names.specs.declared.bases.BasisId.TheVariants.{FqsymG, QsymF, QsymM}
use Rattle.index_rules.specs.Rules.{IsAnswerWithin}
use Rattle.index_rules.specs.Spaces.{IsIndexWithin}
use Rattle.realisations.specs.Codes.{Code}
use Rattle.realisations.specs.Descents.{descent_composition}
use Rattle.realisations.specs.Readings.{applied, commute, element}
use Rattle.commuting_images.proofs.ImageAnswers.{dual_image, inverse_keeps}
use Rattle.commuting_images.proofs.words.FqsymGCommutingImage.image.Goals as goal

pub change-requires-clause-index : goal.change-requires-clause-index
change-requires-clause-index c =
    let k = inverse_keeps c.args.code.now c.requires.index in
    subst (IsIndexWithin QsymF) (sym (c.descent_composition-descents.ensures ∙ ap descent_composition c.inverse-inverse.ensures)) (record { index = k.0; degree = omega (arith, k.1, c.requires.degree) })

pub change-requires-clause-within : goal.change-requires-clause-within
change-requires-clause-within c =
    let k = inverse_keeps c.args.code.now c.requires.index in
    omega (arith, ap (λ (parts : Code). sum parts) (c.descent_composition-descents.ensures ∙ ap descent_composition c.inverse-inverse.ensures), k.1, c.requires.degree)

pub returns : goal.returns
returns c =
    let s : Code = c.args.code.now in
    let descents : Code = c.descent_composition-descents.result in
    let same = c.descent_composition-descents.ensures ∙ ap descent_composition c.inverse-inverse.ensures in
    IfOk-weaker c.change.result (IsAnswerWithin 1 (QsymM ∷ []) (sum descents) (element QsymF descents)) (IsAnswerWithin 1 (QsymM ∷ []) (length s) (applied commute 0 (element FqsymG s)))
    (λ out is. dual_image s c.requires.index out (subst (λ (parts : Code). IsAnswerWithin 1 (QsymM ∷ []) (sum parts) (element QsymF parts) out) same is))
    c.change.ensures
