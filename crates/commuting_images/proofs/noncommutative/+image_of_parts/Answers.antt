use Rattle.std.proofs.Common.{◌≤◌, [], ◌∷◌, length, arith, rules}
use Rattle.std.proofs.lemmas.Result.{IfOk-weaker}
use Rattle.basis_names.specs.declared.bases.BasisId.TheVariants.{QsymM}
use Rattle.index_rules.specs.Lifts.{AreMultiplied}
use Rattle.index_rules.specs.Rules.{IsAnswerWithin}
use Rattle.realisations.specs.Codes.{Code}
use Rattle.realisations.specs.Combinations.{IsCanonical}
use Rattle.realisations.specs.Indices.{degree_of}
use Rattle.commuting_images.specs.ImagesOfParts.{image_of}
use Rattle.commuting_images.proofs.ImagesOfParts.{first_and_later, parts_can_multiply, parts_image, parts_room}
use Rattle.commuting_images.proofs.noncommutative.+image_of_parts.Goals as goal

pub tensor-requires-clause-norm : goal.tensor-requires-clause-norm
tensor-requires-clause-norm g t c =
    let code : Code = c.args.code.now in
    let some : 1 ≤ length code = omega arith in
    let is = first_and_later code c.suffix-later.result c.letter.result some c.letter.ensures c.suffix-later.ensures in
    parts_room g.A.Space.basis c.requires.multiplies code c.suffix-later.result c.letter.result is c.requires.index c.in_ok-first.first c.in_ok-rest.rest c.in_ok-first.ensures c.in_ok-rest.ensures

pub multiply_components-requires-clause-can : goal.multiply_components-requires-clause-can
multiply_components-requires-clause-can g t c =
    let code : Code = c.args.code.now in
    let some : 1 ≤ length code = omega arith in
    let is = first_and_later code c.suffix-later.result c.letter.result some c.letter.ensures c.suffix-later.ensures in
    let canonical : IsCanonical c.in_ok-pairs.pairs.rank c.in_ok-pairs.pairs.den c.in_ok-pairs.pairs.terms = search rules in
    parts_can_multiply g.A.Space.basis c.requires.multiplies code c.suffix-later.result c.letter.result is c.requires.index c.in_ok-first.first c.in_ok-rest.rest c.in_ok-first.ensures c.in_ok-rest.ensures
    c.in_ok-pairs.pairs canonical c.in_ok-pairs.ensures

pub returns : goal.returns
returns g t c =
    let code : Code = c.args.code.now in
    let some : 1 ≤ length code = omega arith in
    let is = first_and_later code c.suffix-later.result c.letter.result some c.letter.ensures c.suffix-later.ensures in
    let canonical : IsCanonical c.in_ok-pairs.pairs.rank c.in_ok-pairs.pairs.den c.in_ok-pairs.pairs.terms = search rules in
    IfOk-weaker c.multiply_components.result (AreMultiplied QsymM 2 0 c.in_ok-pairs.pairs) (IsAnswerWithin 5 (QsymM ∷ []) (degree_of g.A.Space.basis code) (image_of g.A.Space.basis code))
    (λ out multiplied. parts_image g.A.Space.basis c.requires.multiplies code c.suffix-later.result c.letter.result is c.requires.index c.in_ok-first.first c.in_ok-rest.rest c.in_ok-first.ensures c.in_ok-rest.ensures
    c.in_ok-pairs.pairs canonical c.in_ok-pairs.ensures 2 out multiplied)
    c.multiply_components.ensures
