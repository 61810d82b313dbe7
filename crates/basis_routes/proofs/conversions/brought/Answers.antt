use Rattle.std.proofs.Common.{rules, ◌≡◌, ◌≢◌, ◌<◌, ◌-◌, List, length, get_or, ◌∙◌, ap, arith}
use Rattle.std.proofs.lemmas.List.{get_or_default}
use Rattle.basis_names.specs.declared.bases.BasisId.{BasisId}
use Rattle.basis_routes.proofs.ConversionSteps.{changed_step}
use Rattle.basis_routes.proofs.conversions.brought.Goals as goal

pub returns-clause-row : goal.returns-clause-row
returns-clause-row c =
    let n = c.args.component - 1 in
    let v = c.args.value in
    let here = c.at.result in
    let to = c.args.to in
    let lt : n < length v.bases = omega (arith, c.requires.first, c.requires.last) in
    let at : here ≡ get_or v.bases n here = c.at.ensures ∙ ap (λ (bs : List BasisId). get_or bs n here) c.bases.ensures.bases in
    let distinct : here ≢ to = search rules in
    let other : get_or v.bases n to ≢ to = λ same. distinct (at ∙ get_or_default v.bases n here to lt ∙ same) in
    changed_step n to v c.changed_with_room.result other c.changed_with_room.ensures.row
