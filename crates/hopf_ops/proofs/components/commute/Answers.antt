use Rattle.std.proofs.Common.{rules, ◌≡◌, ◌≢◌, ◌<◌, ◌-◌, length, get_or, sym, ◌∙◌, arith}
use Rattle.std.proofs.lemmas.List.{get_or_default}
use Rattle.basis_names.specs.declared.bases.BasisId.TheVariants.{QsymM}
use Rattle.basis_routes.specs.Places.{position_of}
use Rattle.hopf_ops.proofs.CommuteSteps.{commute_of_other, commute_of_same}
use Rattle.hopf_ops.proofs.components.commute.Goals as goal

pub returns : goal.returns
returns c =
    let v = c.args.a.now in
    let n = c.in_ok-component.component - 1 in
    let place : position_of c.args.at ≡ n = omega (arith, c.in_ok-component.ensures.value) in
    let lt : n < length v.bases = omega (arith, c.in_ok-component.ensures.value, c.in_ok-component.ensures.last, c.rank.ensures.rank) in
    let distinct : c.basis.result ≢ QsymM = search rules in
    let other : get_or v.bases n QsymM ≢ QsymM = λ same. distinct (c.basis.ensures ∙ get_or_default v.bases n c.basis.result QsymM lt ∙ same) in
    commute_of_other c.args.at v n c.rank.result c.commuting_image.result place c.rank.ensures.rank c.in_ok-component.ensures.checks other c.commuting_image.ensures.checks c.commuting_image.ensures.value

pub returns-then-eq : goal.returns-then-eq
returns-then-eq c =
    let v = c.args.a.now in
    let n = c.in_ok-component.component - 1 in
    let place : position_of c.args.at ≡ n = omega (arith, c.in_ok-component.ensures.value) in
    let lt : n < length v.bases = omega (arith, c.in_ok-component.ensures.value, c.in_ok-component.ensures.last, c.rank.ensures.rank) in
    let equal : c.basis.result ≡ QsymM = search rules in
    let same : get_or v.bases n QsymM ≡ QsymM = sym (c.basis.ensures ∙ get_or_default v.bases n c.basis.result QsymM lt) ∙ equal in
    commute_of_same c.args.at v n c.rank.result c.copied.result place c.rank.ensures.rank c.in_ok-component.ensures.checks same c.copied.ensures
