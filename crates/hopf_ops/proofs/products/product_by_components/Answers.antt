use Rattle.std.proofs.Common.{◌+◌, List, subst, arith, rules}
use Rattle.std.specs.Prelude.{All}
use Rattle.std.proofs.lemmas.Result.{err_from_is_err_and}
use Rattle.basis_names.specs.declared.bases.BasisId.{BasisId}
use Rattle.hopf_laws.specs.Values.{degree_of_value}
use Rattle.basis_routes.specs.Checks.{Passes, IsRefusalOf}
use Rattle.basis_routes.specs.Joins.{joined}
use Rattle.basis_routes.specs.Rows.{OrMemory}
use Rattle.basis_routes.proofs.Degrees.{degree-small}
use Rattle.hopf_ops.specs.Operations.{common_checks, ProductOver}
use Rattle.basis_routes.proofs.ContainedBases.{lies_length}
use Rattle.hopf_ops.proofs.RowsInSteps.{checks_pass, checks_refuse}
use Rattle.hopf_ops.proofs.products.product_by_components.Goals as goal

pub overflow_add-degree : goal.overflow_add-degree
overflow_add-degree c =
    omega (arith, c.degree.ensures.degree, c.degree-2.ensures.degree, degree-small c.args.a.now c.degree.ensures.value, degree-small c.args.b.now c.degree-2.ensures.value)

-- the common checks refuse
pub returns-in_err-targets : goal.returns-in_err-targets
returns-in_err-targets c =
    let p = err_from_is_err_and c.from_residual.result c.from_residual.ensures.1 in
    let a = c.args.a.now in
    let b = c.args.b.now in
    let common = common_checks (degree_of_value a + degree_of_value b) a b in
    let refused : IsRefusalOf common c.in_err-targets.field-0.0 = search rules in
    rw (p.1, p.2) (checks_refuse common (ProductOver (joined a.bases b.bases) a b) c.in_err-targets.field-0.0 refused)

pub product_over-requires-clause-some : goal.product_over-requires-clause-some
product_over-requires-clause-some c =
    omega (arith, lies_length c.args.a.now.bases c.in_ok-targets.targets c.in_ok-targets.ensures.targets.left, c.requires)

-- they pass, and the rest is the row
pub returns : goal.returns
returns c =
    let a = c.args.a.now in
    let b = c.args.b.now in
    let common = common_checks (degree_of_value a + degree_of_value b) a b in
    let pass : All Passes common = search rules in
    checks_pass common (ProductOver (joined a.bases b.bases) a b) c.product_over.result pass
    (subst (λ (bases : List BasisId). OrMemory (ProductOver bases a b) c.product_over.result) c.in_ok-targets.ensures.value c.product_over.ensures)
