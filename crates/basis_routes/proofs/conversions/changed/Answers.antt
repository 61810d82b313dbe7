use Rattle.std.proofs.Common.{◌-◌, [], ◌∷◌, sym, ◌∙◌, ap, subst}
use Rattle.hopf_laws.specs.Values.{IsValue, Expands, reading_of}
use Rattle.index_rules.specs.Lifts.{CanLift}
use Rattle.basis_routes.specs.Lists.{replaced}
use Rattle.basis_routes.proofs.ChangedValues.{change_of, change_built, change_inside, change_lifted, has_change}
use Rattle.basis_routes.proofs.LiftedValues.{over}
use Rattle.basis_routes.proofs.conversions.changed.Goals as goal

pub change_between-requires-clause-from : goal.change_between-requires-clause-from
change_between-requires-clause-from c =
    change_built (c.args.component - 1) c.args.value.now c.basis-from.result c.args.to c.basis-from.ensures c.requires.change c.combo.ensures.value

pub change_between-requires-clause-inside : goal.change_between-requires-clause-inside
change_between-requires-clause-inside c =
    change_inside (c.args.component - 1) c.args.value.now c.basis-from.result c.args.to c.basis-from.ensures c.requires.change

pub change_between-requires-clause-can : goal.change_between-requires-clause-can
change_between-requires-clause-can c =
    let n = c.args.component - 1 in
    let v = c.args.value.now in
    let has = has_change n v.bases c.basis-from.result c.requires.change.here c.basis-from.ensures in
    λ growth. subst (CanLift (change_of c.basis-from.result c.args.to growth) n) (sym c.combo.ensures.combination)
    (has.can v.combination c.args.to c.combo.ensures.value c.requires.change.degree c.requires.room growth)

pub over-requires : goal.over-requires
over-requires c =
    let n = c.args.component - 1 in
    let v = c.args.value.now in
    let whole = change_lifted n v c.basis-from.result c.args.to c.in_ok-combo.combo c.combo.result.now c.basis-from.ensures c.requires.change c.combo.ensures.value c.combo.ensures.combination c.in_ok-combo.ensures in
    subst (λ bases. IsValue (over bases c.in_ok-combo.combo)) (sym (c.replaced.ensures ∙ ap (replaced n (c.args.to ∷ [])) c.bases.ensures.bases)) whole.value

pub returns : goal.returns
returns c =
    let n = c.args.component - 1 in
    let v = c.args.value.now in
    let whole = change_lifted n v c.basis-from.result c.args.to c.in_ok-combo.combo c.combo.result.now c.basis-from.ensures c.requires.change c.combo.ensures.value c.combo.ensures.combination c.in_ok-combo.ensures in
    subst (Expands (replaced n (c.args.to ∷ []) v.bases) (reading_of v))
    (sym (c.over.ensures ∙ ap (λ bases. over bases c.in_ok-combo.combo) (c.replaced.ensures ∙ ap (replaced n (c.args.to ∷ [])) c.bases.ensures.bases))) whole
