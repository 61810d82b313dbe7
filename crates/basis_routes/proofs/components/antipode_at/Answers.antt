use Rattle.std.proofs.Common.{◌<◌, ◌-◌, length, sym, ◌∙◌, ap, subst, arith}
use Rattle.hopf_laws.specs.Values.{IsValue, Expands, reading_of}
use Rattle.index_rules.specs.Lifts.{CanLift}
use Rattle.realisations.specs.Readings.{applied, antipode}
use Rattle.basis_routes.proofs.AntipodeValues.{antipode_facts, antipode_lifted, has_antipode}
use Rattle.basis_routes.proofs.LiftedValues.{over}
use Rattle.basis_routes.proofs.components.antipode_at.Goals as goal

pub antipode_over-requires-clause-built : goal.antipode_over-requires-clause-built
antipode_over-requires-clause-built c =
    let n = c.args.component - 1 in
    let v = c.args.value.now in
    let lt : n < length v.bases = omega (arith, c.requires.first, c.requires.last) in
    (has_antipode n v.bases c.basis-basis.result lt c.basis-basis.ensures).built v.combination c.combo.ensures.value

pub antipode_over-requires-clause-can : goal.antipode_over-requires-clause-can
antipode_over-requires-clause-can c =
    let n = c.args.component - 1 in
    let v = c.args.value.now in
    let lt : n < length v.bases = omega (arith, c.requires.first, c.requires.last) in
    let has = has_antipode n v.bases c.basis-basis.result lt c.basis-basis.ensures in
    subst (CanLift (antipode_facts c.basis-basis.result) n) (sym c.combo.ensures.combination) (has.can v.combination c.combo.ensures.value c.requires.room)

pub over-requires : goal.over-requires
over-requires c =
    let n = c.args.component - 1 in
    let v = c.args.value.now in
    let lt : n < length v.bases = omega (arith, c.requires.first, c.requires.last) in
    let whole = antipode_lifted n v c.basis-basis.result c.in_ok-combo.combo c.combo.result.now lt c.basis-basis.ensures c.combo.ensures.value c.combo.ensures.combination c.in_ok-combo.ensures in
    subst (λ bases. IsValue (over bases c.in_ok-combo.combo)) (sym (c.copy.ensures ∙ c.bases.ensures.bases)) whole.value

pub returns : goal.returns
returns c =
    let n = c.args.component - 1 in
    let v = c.args.value.now in
    let lt : n < length v.bases = omega (arith, c.requires.first, c.requires.last) in
    let whole = antipode_lifted n v c.basis-basis.result c.in_ok-combo.combo c.combo.result.now lt c.basis-basis.ensures c.combo.ensures.value c.combo.ensures.combination c.in_ok-combo.ensures in
    subst (Expands v.bases (applied antipode n (reading_of v))) (sym (c.over.ensures ∙ ap (λ bases. over bases c.in_ok-combo.combo) (c.copy.ensures ∙ c.bases.ensures.bases))) whole
