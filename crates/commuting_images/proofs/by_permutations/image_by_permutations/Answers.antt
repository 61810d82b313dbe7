use Rattle.std.proofs.Common.{[], ◌∷◌, ap, arith, refl}
use Rattle.std.proofs.lemmas.Result.{IfOk-weaker}
use Rattle.basis_names.specs.declared.bases.BasisId.{BasisId}
use Rattle.basis_names.specs.declared.bases.BasisId.TheVariants.{FqsymF, QsymM}
use Rattle.commuting_images.specs.Images.{image_facts}
use Rattle.index_rules.specs.Lifts.{IsLift}
use Rattle.index_rules.specs.Rules.{IsAnswerWithin}
use Rattle.realisations.specs.Codes.{Code}
use Rattle.realisations.specs.Indices.{degree_of}
use Rattle.realisations.specs.Readings.{applied, commute, element}
use Rattle.commuting_images.proofs.LiftedImages.{can_take_images, images_answer}
use Rattle.commuting_images.proofs.by_permutations.image_by_permutations.Goals as goal

pub image_component-requires-clause-can : goal.image_component-requires-clause-can
image_component-requires-clause-can g c =
    let a : BasisId = g.A.Space.basis in
    let code : Code = c.args.code.now in
    can_take_images FqsymF refl 3 1 (degree_of a code) (element a code) c.in_ok-sum.sum c.in_ok-sum.ensures.answers
    (omega (arith, c.requires.index.degree, c.requires.limit)) (omega (arith, c.requires.index.degree, c.requires.limit))

pub returns : goal.returns
returns g c =
    let a : BasisId = g.A.Space.basis in
    let code : Code = c.args.code.now in
    IfOk-weaker c.image_component.result (IsLift (image_facts FqsymF 1) 0 c.in_ok-sum.sum) (IsAnswerWithin 4 (QsymM ∷ []) (degree_of a code) (applied commute 0 (element a code)))
    (λ out lifted. images_answer FqsymF refl 3 1 (degree_of a code) (element a code) c.in_ok-sum.sum c.in_ok-sum.ensures.answers (omega arith) (ap (λ kind. kind ∷ []) g.met.A.InclusionIn.same_kind) refl out lifted)
    c.image_component.ensures
