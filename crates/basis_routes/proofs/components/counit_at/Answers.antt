use Rattle.std.proofs.Common.{◌<◌, ◌-◌, length, sym, ◌∙◌, ap, subst, arith}
use Rattle.hopf_laws.specs.Values.{IsValue, Expands, reading_of}
use Rattle.realisations.specs.Readings.{applied, counit}
use Rattle.basis_routes.specs.Lists.{without}
use Rattle.basis_routes.proofs.CounitValues.{counit_expands}
use Rattle.basis_routes.proofs.LiftedValues.{over}
use Rattle.basis_routes.proofs.components.counit_at.Goals as goal

pub over-requires : goal.over-requires
over-requires c =
    let n = c.args.component - 1 in
    let v = c.args.value.now in
    let lt : n < length v.bases = omega (arith, c.requires.first, c.requires.last) in
    let whole = counit_expands n v c.combo.result.now c.in_ok-combo.combo lt c.combo.ensures.value c.combo.ensures.combination c.in_ok-combo.ensures in
    subst (λ bases. IsValue (over bases c.in_ok-combo.combo)) (sym (c.without.ensures ∙ ap (without n) c.bases.ensures.bases)) whole.value

pub returns : goal.returns
returns c =
    let n = c.args.component - 1 in
    let v = c.args.value.now in
    let lt : n < length v.bases = omega (arith, c.requires.first, c.requires.last) in
    let whole = counit_expands n v c.combo.result.now c.in_ok-combo.combo lt c.combo.ensures.value c.combo.ensures.combination c.in_ok-combo.ensures in
    subst (Expands (without n v.bases) (applied counit n (reading_of v)))
    (sym (c.over.ensures ∙ ap (λ bases. over bases c.in_ok-combo.combo) (c.without.ensures ∙ ap (without n) c.bases.ensures.bases))) whole
