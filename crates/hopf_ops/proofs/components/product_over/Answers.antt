use Rattle.std.proofs.Common.{◌≡◌, ℕ, suc, ◌-◌, ◌≤◌, Ok, Err, sym, ◌∙◌, ap, subst, arith}
use Rattle.std.specs.Prelude.{IfOk}
use Rattle.std.proofs.lemmas.Result.{err_from_is_err_and}
use Rattle.realisations.specs.Readings.{applied, mult}
use Rattle.hopf_laws.specs.Bases.{AreBuilt, least_limit}
use Rattle.hopf_laws.specs.Values.{Expansion, Expands, degree_of_value, reading_of}
use Rattle.basis_routes.specs.Conversions.{Converts}
use Rattle.basis_routes.specs.Joins.{LieIn}
use Rattle.basis_routes.specs.Lists.{doubled, without}
use Rattle.basis_routes.specs.Rows.{OrMemory}
use Rattle.hopf_ops.proofs.NeighboursInSteps.{both_built, both_inside, both_within, over_twice, both_there, neighbours_not_converted, neighbours_product}
use Rattle.hopf_ops.proofs.components.product_over.Goals as goal

pub converted_operand-requires-clause-built : goal.converted_operand-requires-clause-built
converted_operand-requires-clause-built c =
    subst (λ bs. AreBuilt bs) (sym c.doubled-targets.ensures) (both_built c.args.bases.now (c.args.component - 1) c.args.a.now c.requires.joined)

pub converted_operand-requires-clause-inside : goal.converted_operand-requires-clause-inside
converted_operand-requires-clause-inside c =
    subst (λ bs. LieIn c.args.a.now.bases bs) (sym c.doubled-targets.ensures) (both_inside c.args.bases.now (c.args.component - 1) c.args.a.now c.requires.joined)

pub converted_operand-requires-clause-degree : goal.converted_operand-requires-clause-degree
converted_operand-requires-clause-degree c =
    subst (λ bs. degree_of_value c.args.a.now ≤ least_limit bs) (sym c.doubled-targets.ensures) (both_within c.args.bases.now (c.args.component - 1) c.args.a.now c.requires.joined)

-- a conversion is refused
pub returns-in_err-made : goal.returns-in_err-made
returns-in_err-made c =
    let p = err_from_is_err_and c.from_residual.result c.from_residual.ensures.1 in
    let a = c.args.a.now in
    rw (p.1, p.2) (neighbours_not_converted c.args.bases.now (c.args.component - 1) a c.requires.joined c.in_err-made.field-0.0
    (subst (λ bs. OrMemory (Converts bs a) (Err c.in_err-made.field-0.0)) c.doubled-targets.ensures c.in_err-made.ensures.refusal))

pub product_of_same-requires-clause-last : goal.product_of_same-requires-clause-last
product_of_same-requires-clause-last c =
    let a = c.args.a.now in
    let y = c.made_or_given.result.now in
    let n = c.args.component - 1 in
    let given : Converts c.doubled-targets.result a (Ok y) = subst (λ (v : Expansion). Converts c.doubled-targets.result a (Ok v)) (sym c.made_or_given.ensures) c.in_ok-made.ensures.value in
    let h : Converts (doubled n c.args.bases.now) a (Ok y) = subst (λ bs. Converts bs a (Ok y)) c.doubled-targets.ensures given in
    omega (arith, both_there c.args.bases.now n a c.requires.joined y h, c.requires.first)

pub product_of_same-requires-clause-same : goal.product_of_same-requires-clause-same
product_of_same-requires-clause-same c =
    let a = c.args.a.now in
    let y = c.made_or_given.result.now in
    let n = c.args.component - 1 in
    let given : Converts c.doubled-targets.result a (Ok y) = subst (λ (v : Expansion). Converts c.doubled-targets.result a (Ok v)) (sym c.made_or_given.ensures) c.in_ok-made.ensures.value in
    let h : Converts (doubled n c.args.bases.now) a (Ok y) = subst (λ bs. Converts bs a (Ok y)) c.doubled-targets.ensures given in
    let place : suc n ≡ c.args.component = omega (arith, c.requires.first) in
    over_twice c.args.bases.now n a c.requires.joined y h ∙ ap (λ (k : ℕ). doubled n (without k y.bases)) place

-- both are converted, and then comes their product
pub returns : goal.returns
returns c =
    let a = c.args.a.now in
    let y = c.made_or_given.result.now in
    let n = c.args.component - 1 in
    let given : Converts c.doubled-targets.result a (Ok y) = subst (λ (v : Expansion). Converts c.doubled-targets.result a (Ok v)) (sym c.made_or_given.ensures) c.in_ok-made.ensures.value in
    let h : Converts (doubled n c.args.bases.now) a (Ok y) = subst (λ bs. Converts bs a (Ok y)) c.doubled-targets.ensures given in
    let place : c.args.component ≡ suc n = omega (arith, c.requires.first) in
    let value : IfOk c.product_of_same.result (Expands (without (suc n) y.bases) (applied mult n (reading_of y))) =
    subst (λ (k : ℕ). IfOk c.product_of_same.result (Expands (without k y.bases) (applied mult n (reading_of y)))) place c.product_of_same.ensures.value in
    neighbours_product c.args.bases.now n a c.requires.joined y h c.product_of_same.result c.product_of_same.ensures.checks value
