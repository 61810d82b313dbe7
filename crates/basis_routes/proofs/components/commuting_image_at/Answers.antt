use Rattle.std.proofs.Common.{[], ◌∷◌, ◌<◌, ◌-◌, length, sym, ◌∙◌, ap, subst, arith}
use Rattle.basis_names.specs.declared.bases.BasisId.TheVariants.{QsymM}
use Rattle.commuting_images.specs.Images.{image_facts}
use Rattle.hopf_laws.specs.Values.{IsValue, Expands, reading_of}
use Rattle.index_rules.specs.Lifts.{CanLift}
use Rattle.realisations.specs.Readings.{applied, commute}
use Rattle.basis_routes.specs.Lists.{replaced}
use Rattle.basis_routes.proofs.ImageValues.{image_lifted, has_image}
use Rattle.basis_routes.proofs.LiftedValues.{over}
use Rattle.basis_routes.proofs.components.commuting_image_at.Goals as goal

pub image_over-requires-clause-built : goal.image_over-requires-clause-built
image_over-requires-clause-built c =
    let n = c.args.component - 1 in
    let v = c.args.value.now in
    let lt : n < length v.bases = omega (arith, c.requires.first, c.requires.last) in
    (has_image n v.bases c.basis-basis.result lt c.basis-basis.ensures).built v.combination c.combo.ensures.value

pub image_over-requires-clause-can : goal.image_over-requires-clause-can
image_over-requires-clause-can c =
    let n = c.args.component - 1 in
    let v = c.args.value.now in
    let lt : n < length v.bases = omega (arith, c.requires.first, c.requires.last) in
    let has = has_image n v.bases c.basis-basis.result lt c.basis-basis.ensures in
    λ growth. subst (CanLift (image_facts c.basis-basis.result growth) n) (sym c.combo.ensures.combination) (has.can v.combination c.combo.ensures.value c.requires.room growth)

pub over-requires : goal.over-requires
over-requires c =
    let n = c.args.component - 1 in
    let v = c.args.value.now in
    let lt : n < length v.bases = omega (arith, c.requires.first, c.requires.last) in
    let whole = image_lifted n v c.basis-basis.result c.in_ok-combo.combo c.combo.result.now lt c.basis-basis.ensures c.combo.ensures.value c.combo.ensures.combination c.in_ok-combo.ensures in
    subst (λ bases. IsValue (over bases c.in_ok-combo.combo)) (sym (c.replaced.ensures ∙ ap (replaced n (QsymM ∷ [])) c.bases.ensures.bases)) whole.value

pub returns : goal.returns
returns c =
    let n = c.args.component - 1 in
    let v = c.args.value.now in
    let lt : n < length v.bases = omega (arith, c.requires.first, c.requires.last) in
    let whole = image_lifted n v c.basis-basis.result c.in_ok-combo.combo c.combo.result.now lt c.basis-basis.ensures c.combo.ensures.value c.combo.ensures.combination c.in_ok-combo.ensures in
    subst (Expands (replaced n (QsymM ∷ []) v.bases) (applied commute n (reading_of v)))
    (sym (c.over.ensures ∙ ap (λ bases. over bases c.in_ok-combo.combo) (c.replaced.ensures ∙ ap (replaced n (QsymM ∷ [])) c.bases.ensures.bases))) whole
