use Rattle.std.proofs.Common.{rules, ◌≡◌, ◌≢◌, ◌<◌, ◌-◌, length, get_or, sym, ◌∙◌, arith}
use Rattle.std.proofs.lemmas.List.{get_or_default}
use Rattle.basis_routes.specs.Places.{position_of}
use Rattle.basis_routes.proofs.ConversionSteps.{conversion_asked, conversion_of_same}
use Rattle.basis_routes.proofs.conversions.convert.Goals as goal

pub returns : goal.returns
returns c =
    let v = c.args.value.now in
    let n = c.in_ok-component.component - 1 in
    let place : position_of c.args.at ≡ n = omega (arith, c.in_ok-component.ensures.value) in
    let lt : n < length v.bases = omega (arith, c.in_ok-component.ensures.value, c.in_ok-component.ensures.last, c.rank.ensures.rank) in
    let distinct : c.basis.result ≢ c.args.to = search rules in
    let other : get_or v.bases n c.args.to ≢ c.args.to = λ same. distinct (c.basis.ensures ∙ get_or_default v.bases n c.basis.result c.args.to lt ∙ same) in
    conversion_asked c.args.at c.args.to v n c.rank.result c.changed_on_the_way.result place c.rank.ensures.rank c.in_ok-component.ensures.checks other c.changed_on_the_way.ensures

pub returns-then-eq : goal.returns-then-eq
returns-then-eq c =
    let v = c.args.value.now in
    let n = c.in_ok-component.component - 1 in
    let place : position_of c.args.at ≡ n = omega (arith, c.in_ok-component.ensures.value) in
    let lt : n < length v.bases = omega (arith, c.in_ok-component.ensures.value, c.in_ok-component.ensures.last, c.rank.ensures.rank) in
    let equal : c.basis.result ≡ c.args.to = search rules in
    let same : get_or v.bases n c.args.to ≡ c.args.to = sym (c.basis.ensures ∙ get_or_default v.bases n c.basis.result c.args.to lt) ∙ equal in
    conversion_of_same c.args.at c.args.to v n c.rank.result c.copied.result place c.rank.ensures.rank c.in_ok-component.ensures.checks same c.copied.ensures
