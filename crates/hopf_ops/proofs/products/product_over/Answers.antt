use Rattle.std.proofs.Common.{◌+◌, ◌≤◌, List, length, Ok, sym, subst}
use Rattle.std.specs.Prelude.{unwrap_or}
use Rattle.std.proofs.lemmas.Result.{err_from_is_err_and}
use Rattle.basis_names.specs.declared.bases.BasisId.{BasisId}
use Rattle.hopf_laws.specs.Values.{Expansion, degree_of_value}
use Rattle.basis_routes.specs.Conversions.{Converts}
use Rattle.basis_routes.proofs.ContainedBases.{lies_kinds}
use Rattle.basis_routes.proofs.ConvertedRows.{converts_expands}
use Rattle.hopf_ops.proofs.SumsOfOperands.{same_targets}
use Rattle.hopf_ops.proofs.ProductsOfOperands.{product_passes, product_first, product_second, degrees_converted}
use Rattle.hopf_ops.proofs.products.product_over.Goals as goal

-- what both came to is over the same bases
pub product_of_same-requires-clause-same : goal.product_of_same-requires-clause-same
product_of_same-requires-clause-same c =
    let targets = c.args.targets.now in
    let a = c.args.a.now in
    let b = c.args.b.now in
    let x = c.made_or_given.result.now in
    let y = c.made_or_given-2.result.now in
    let hx : Converts targets a (Ok x) = subst (λ (v : Expansion). Converts targets a (Ok v)) (sym c.made_or_given.ensures) c.in_ok-x.ensures.value in
    let hy : Converts targets b (Ok y) = subst (λ (v : Expansion). Converts targets b (Ok v)) (sym c.made_or_given-2.ensures) c.in_ok-y.ensures.value in
    same_targets targets (degree_of_value a + degree_of_value b) a b x y c.requires.targets hx hy

pub product_of_same-requires-clause-some : goal.product_of_same-requires-clause-some
product_of_same-requires-clause-some c =
    let targets = c.args.targets.now in
    let a = c.args.a.now in
    let b = c.args.b.now in
    let x = c.made_or_given.result.now in
    let y = c.made_or_given-2.result.now in
    let hx : Converts targets a (Ok x) = subst (λ (v : Expansion). Converts targets a (Ok v)) (sym c.made_or_given.ensures) c.in_ok-x.ensures.value in
    let hy : Converts targets b (Ok y) = subst (λ (v : Expansion). Converts targets b (Ok v)) (sym c.made_or_given-2.ensures) c.in_ok-y.ensures.value in
    subst (λ (bases : List BasisId). 1 ≤ length bases) (sym (converts_expands targets a x c.requires.targets.left_value (lies_kinds a.bases targets c.requires.targets.left) hx).over) c.requires.some

-- conversions keep degrees
pub product_of_same-requires-clause-degree : goal.product_of_same-requires-clause-degree
product_of_same-requires-clause-degree c =
    let targets = c.args.targets.now in
    let a = c.args.a.now in
    let b = c.args.b.now in
    let x = c.made_or_given.result.now in
    let y = c.made_or_given-2.result.now in
    let hx : Converts targets a (Ok x) = subst (λ (v : Expansion). Converts targets a (Ok v)) (sym c.made_or_given.ensures) c.in_ok-x.ensures.value in
    let hy : Converts targets b (Ok y) = subst (λ (v : Expansion). Converts targets b (Ok v)) (sym c.made_or_given-2.ensures) c.in_ok-y.ensures.value in
    degrees_converted targets a b x y c.requires.targets hx hy

-- both are converted, where they have to be
pub returns : goal.returns
returns c =
    let targets = c.args.targets.now in
    let a = c.args.a.now in
    let b = c.args.b.now in
    let x = c.made_or_given.result.now in
    let y = c.made_or_given-2.result.now in
    let hx : Converts targets a (Ok x) = subst (λ (v : Expansion). Converts targets a (Ok v)) (sym c.made_or_given.ensures) c.in_ok-x.ensures.value in
    let hy : Converts targets b (Ok y) = subst (λ (v : Expansion). Converts targets b (Ok v)) (sym c.made_or_given-2.ensures) c.in_ok-y.ensures.value in
    product_passes targets a b x y (degree_of_value a + degree_of_value b) c.product_of_same.result c.requires.targets
    hx hy c.product_of_same.ensures.checks c.product_of_same.ensures.value

-- the conversions of the first operand are refused
pub returns-in_err-x : goal.returns-in_err-x
returns-in_err-x c =
    let p = err_from_is_err_and c.from_residual.result c.from_residual.ensures.1 in
    rw (p.1, p.2) (product_first c.args.targets.now c.args.a.now c.args.b.now c.in_err-x.field-0.0 c.in_err-x.ensures.refusal)

-- or those of the second one
pub returns-in_err-y : goal.returns-in_err-y
returns-in_err-y c =
    let a = c.args.a.now in
    let p = err_from_is_err_and c.from_residual-in_err-y.result c.from_residual-in_err-y.ensures.1 in
    rw (p.1, p.2) (product_second c.args.targets.now a c.args.b.now (unwrap_or c.in_ok-x.x a) c.in_err-y.field-0.0 c.in_ok-x.ensures.value c.in_err-y.ensures.refusal)
