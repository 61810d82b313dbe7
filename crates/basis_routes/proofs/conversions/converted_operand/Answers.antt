use Rattle.std.proofs.Common.{◌≡◌, ◌≤◌, ◌+◌, ◌-◌, List, length, sym, ◌∙◌, ap, subst, arith}
use Rattle.basis_names.specs.declared.bases.BasisId.{BasisId}
use Rattle.basis_routes.specs.Changed.{AreSameTo}
use Rattle.basis_routes.specs.Conversions.{Converts}
use Rattle.basis_routes.proofs.ContainedBases.{lies_length}
use Rattle.basis_routes.proofs.ConversionSteps.{converts_behind_same, converts_none}
use Rattle.basis_routes.proofs.SteppedRows.{value_told, refused}
use Rattle.basis_routes.proofs.ValueRows.{told}
use Rattle.basis_routes.proofs.conversions.converted_operand.Goals as goal

pub same_components-same-requires : goal.same_components-same-requires
same_components-same-requires c =
    omega (arith, ap (λ (bs : List BasisId). length bs) c.bases.ensures.bases, lies_length c.args.value.now.bases c.args.targets.now c.requires.inside)

-- a value over the bases stays as it is
pub returns-then-same-rank-clause-value : goal.returns-then-same-rank-clause-value
returns-then-same-rank-clause-value c =
    let v = c.args.value.now in
    let targets = c.args.targets.now in
    let n = c.same_components-same.result in
    let same : AreSameTo n v.bases targets = subst (λ (bs : List BasisId). AreSameTo n bs targets) c.bases.ensures.bases c.same_components-same.ensures.same in
    converts_none targets n v (c.if-same-rank.true ∙ c.rank.ensures.rank ∙ lies_length v.bases targets c.requires.inside) same

pub returns-in-Ok-clause-value : goal.returns-in-Ok-clause-value
returns-in-Ok-clause-value c =
    let v = c.args.value.now in
    let targets = c.args.targets.now in
    let n = c.same_components-same.result in
    let place : n + 1 - 1 ≡ n = omega arith in
    let same : AreSameTo n v.bases targets = subst (λ (bs : List BasisId). AreSameTo n bs targets) c.bases.ensures.bases c.same_components-same.ensures.same in
    let le : n ≤ length targets = omega (arith, c.same_components-same.ensures.at_most, ap (λ (bs : List BasisId). length bs) c.bases.ensures.bases, lies_length v.bases targets c.requires.inside) in
    value_told (Converts targets v) c.in-Ok.made (converts_behind_same targets n (n + 1 - 1) v (told c.in-Ok.made) place le same c.in-Ok.ensures)

pub returns-in-Err-clause-refusal : goal.returns-in-Err-clause-refusal
returns-in-Err-clause-refusal c =
    let v = c.args.value.now in
    let targets = c.args.targets.now in
    let n = c.same_components-same.result in
    let place : n + 1 - 1 ≡ n = omega arith in
    let same : AreSameTo n v.bases targets = subst (λ (bs : List BasisId). AreSameTo n bs targets) c.bases.ensures.bases c.same_components-same.ensures.same in
    let le : n ≤ length targets = omega (arith, c.same_components-same.ensures.at_most, ap (λ (bs : List BasisId). length bs) c.bases.ensures.bases, lies_length v.bases targets c.requires.inside) in
    converts_behind_same targets n (n + 1 - 1) v (refused c.in-Err.refusal) place le same c.in-Err.ensures
