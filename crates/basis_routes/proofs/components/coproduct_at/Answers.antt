use Rattle.std.proofs.Common.{◌<◌, ◌-◌, length, sym, ◌∙◌, ap, subst, arith}
use Rattle.hopf_laws.specs.Values.{IsValue, Expands, reading_of}
use Rattle.index_rules.specs.Lifts.{CanLift}
use Rattle.realisations.specs.Readings.{applied, coproduct}
use Rattle.basis_routes.specs.Lists.{doubled}
use Rattle.basis_routes.proofs.CoproductValues.{coproduct_facts, coproduct_lifted, has_coproduct}
use Rattle.basis_routes.proofs.LiftedValues.{over}
use Rattle.basis_routes.proofs.components.coproduct_at.Goals as goal

pub coproduct_over-requires-clause-can : goal.coproduct_over-requires-clause-can
coproduct_over-requires-clause-can c =
    let n = c.args.component - 1 in
    let v = c.args.value.now in
    let lt : n < length v.bases = omega (arith, c.requires.first, c.requires.last) in
    let has = has_coproduct n v.bases c.basis-basis.result lt c.basis-basis.ensures in
    λ growth. subst (CanLift (coproduct_facts c.basis-basis.result growth) n) (sym c.combo.ensures.combination) (has.can v.combination c.combo.ensures.value c.requires.most c.requires.room growth)

pub over-requires : goal.over-requires
over-requires c =
    let n = c.args.component - 1 in
    let v = c.args.value.now in
    let lt : n < length v.bases = omega (arith, c.requires.first, c.requires.last) in
    let whole = coproduct_lifted n v c.basis-basis.result c.in_ok-combo.combo c.combo.result.now lt c.basis-basis.ensures c.combo.ensures.value c.requires.most c.combo.ensures.combination c.in_ok-combo.ensures in
    subst (λ bases. IsValue (over bases c.in_ok-combo.combo)) (sym (c.doubled.ensures ∙ ap (doubled n) c.bases.ensures.bases)) whole.value

pub returns : goal.returns
returns c =
    let n = c.args.component - 1 in
    let v = c.args.value.now in
    let lt : n < length v.bases = omega (arith, c.requires.first, c.requires.last) in
    let whole = coproduct_lifted n v c.basis-basis.result c.in_ok-combo.combo c.combo.result.now lt c.basis-basis.ensures c.combo.ensures.value c.requires.most c.combo.ensures.combination c.in_ok-combo.ensures in
    subst (Expands (doubled n v.bases) (applied coproduct n (reading_of v)))
    (sym (c.over.ensures ∙ ap (λ bases. over bases c.in_ok-combo.combo) (c.doubled.ensures ∙ ap (doubled n) c.bases.ensures.bases))) whole
