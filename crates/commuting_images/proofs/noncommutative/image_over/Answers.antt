use Rattle.std.proofs.Common.{ℕ, sym, ◌∙◌}
use Rattle.std.proofs.lemmas.Result.{IfOk-weaker}
use Rattle.basis_names.specs.declared.bases.BasisId.{BasisId}
use Rattle.index_rules.specs.Lifts.{IsLift}
use Rattle.realisations.specs.Codes.{Code}
use Rattle.realisations.specs.Indices.{degree_of}
use Rattle.commuting_images.specs.Images.{image_facts}
use Rattle.commuting_images.specs.ImagesOfParts.{IsOfAnyNorm, image_of}
use Rattle.commuting_images.proofs.AnswersOfAnyNorm.{can_image, lifted_image}
use Rattle.commuting_images.proofs.noncommutative.image_over.Goals as goal

pub image_component-requires-clause-can : goal.image_component-requires-clause-can
image_component-requires-clause-can g c =
    let a : BasisId = g.A.Space.basis in
    let b : BasisId = g.B.Space.basis in
    let code : Code = c.args.code.now in
    can_image b a (sym g.met.A.Change.same_kind ∙ c.requires.words) c.requires.words g.A.Change.change_growth g.B.CommutingImage.image_growth (degree_of a code) code c.in_ok-terms.terms c.in_ok-terms.ensures
    c.requires.within

pub returns : goal.returns
returns g c =
    let a : BasisId = g.A.Space.basis in
    let b : BasisId = g.B.Space.basis in
    let code : Code = c.args.code.now in
    let growth : ℕ = g.B.CommutingImage.image_growth in
    IfOk-weaker c.image_component.result (IsLift (image_facts b growth) 0 c.in_ok-terms.terms) (IsOfAnyNorm (degree_of a code) (image_of a code))
    (λ out lifted. lifted_image b a (sym g.met.A.Change.same_kind ∙ c.requires.words) c.requires.words g.A.Change.change_growth growth (degree_of a code) code c.in_ok-terms.terms c.in_ok-terms.ensures out lifted)
    c.image_component.ensures
