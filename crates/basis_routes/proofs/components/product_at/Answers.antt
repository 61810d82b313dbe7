use Rattle.std.proofs.Common.{◌≡◌, ◌<◌, ◌+◌, ◌-◌, length, sym, ◌∙◌, ap, subst, arith}
use Rattle.hopf_laws.specs.Values.{IsValue, Expands, reading_of}
use Rattle.index_rules.specs.Lifts.{CanMultiply}
use Rattle.realisations.specs.Readings.{applied, mult}
use Rattle.basis_routes.specs.Lists.{without}
use Rattle.basis_routes.proofs.ProductValues.{has_product, multiplied}
use Rattle.basis_routes.proofs.LiftedValues.{over}
use Rattle.basis_routes.proofs.components.product_at.Goals as goal

pub product_over-requires-clause-can : goal.product_over-requires-clause-can
product_over-requires-clause-can c =
    let n = c.args.component - 1 in
    let m = c.args.component in
    let v = c.args.value.now in
    let next : m ≡ n + 1 = omega (arith, c.requires.first) in
    let lt : m < length v.bases = omega (arith, c.requires.last) in
    let has = has_product n m v.bases c.basis-basis.result next lt c.basis-basis.ensures c.requires.same in
    subst (CanMultiply c.basis-basis.result n) (sym c.combo.ensures.combination) (has.can v.combination c.combo.ensures.value c.requires.room)

pub over-requires : goal.over-requires
over-requires c =
    let n = c.args.component - 1 in
    let m = c.args.component in
    let v = c.args.value.now in
    let next : m ≡ n + 1 = omega (arith, c.requires.first) in
    let lt : m < length v.bases = omega (arith, c.requires.last) in
    let place : m + 1 - 1 ≡ m = omega arith in
    let whole = multiplied n m v c.basis-basis.result c.in_ok-combo.combo c.combo.result.now next lt c.basis-basis.ensures c.requires.same c.combo.ensures.value c.combo.ensures.combination c.in_ok-combo.ensures in
    subst (λ bases. IsValue (over bases c.in_ok-combo.combo)) (sym (c.without.ensures ∙ (λ i. without (place i) (c.bases.ensures.bases i)))) whole.value

pub returns : goal.returns
returns c =
    let n = c.args.component - 1 in
    let m = c.args.component in
    let v = c.args.value.now in
    let next : m ≡ n + 1 = omega (arith, c.requires.first) in
    let lt : m < length v.bases = omega (arith, c.requires.last) in
    let place : m + 1 - 1 ≡ m = omega arith in
    let whole = multiplied n m v c.basis-basis.result c.in_ok-combo.combo c.combo.result.now next lt c.basis-basis.ensures c.requires.same c.combo.ensures.value c.combo.ensures.combination c.in_ok-combo.ensures in
    subst (Expands (without m v.bases) (applied mult n (reading_of v)))
    (sym (c.over.ensures ∙ ap (λ bases. over bases c.in_ok-combo.combo) (c.without.ensures ∙ (λ i. without (place i) (c.bases.ensures.bases i))))) whole
