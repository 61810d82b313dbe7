use Rattle.std.proofs.Common.{List, max, subst, rules}
use Rattle.std.specs.Prelude.{All}
use Rattle.std.proofs.lemmas.Result.{err_from_is_err_and}
use Rattle.basis_names.specs.declared.bases.BasisId.{BasisId}
use Rattle.hopf_laws.specs.Values.{degree_of_value}
use Rattle.basis_routes.specs.Checks.{Passes, IsRefusalOf}
use Rattle.basis_routes.specs.Joins.{joined}
use Rattle.hopf_ops.specs.Operations.{common_checks, BothBrought, ComparedRow}
use Rattle.hopf_ops.proofs.EqualValues.{IsEqualOrMemory, after_checks, refused_after}
use Rattle.hopf_ops.proofs.RowsInSteps.{checks_refuse}
use Rattle.hopf_ops.proofs.equality.equal.Goals as goal

-- the common checks refuse
pub returns-in_err-targets : goal.returns-in_err-targets
returns-in_err-targets c =
    let p = err_from_is_err_and c.from_residual.result c.from_residual.ensures.1 in
    let a = c.args.a.now in
    let b = c.args.b.now in
    let targets = joined a.bases b.bases in
    let common = common_checks (max (degree_of_value a) (degree_of_value b)) a b in
    let refused : IsRefusalOf common c.in_err-targets.field-0.0 = search rules in
    rw (p.1, p.2) (refused_after (ComparedRow a b) targets a b c.in_err-targets.field-0.0 (checks_refuse common (BothBrought targets a b) c.in_err-targets.field-0.0 refused))

-- they pass, and the rest is the row
pub returns : goal.returns
returns c =
    let a = c.args.a.now in
    let b = c.args.b.now in
    let targets = joined a.bases b.bases in
    let common = common_checks (max (degree_of_value a) (degree_of_value b)) a b in
    let pass : All Passes common = search rules in
    after_checks common (BothBrought targets a b) targets a b c.equal_over.result pass
    (subst (λ (bases : List BasisId). IsEqualOrMemory (BothBrought bases a b) bases a b c.equal_over.result) c.in_ok-targets.ensures.value c.equal_over.ensures)
