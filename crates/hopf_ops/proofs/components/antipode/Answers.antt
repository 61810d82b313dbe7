use Rattle.std.proofs.Common.{◌≡◌, ℕ, ◌-◌, ◌++◌, length, Ok, subst, arith, rules}
use Rattle.std.specs.Prelude.{All}
use Rattle.std.proofs.lemmas.List.Elements.{All-append}
use Rattle.std.proofs.lemmas.Result.{err_from_is_err_and}
use Rattle.realisations.specs.Readings.{applied, antipode}
use Rattle.hopf_laws.specs.Values.{Expands, reading_of}
use Rattle.basis_routes.specs.Checks.{Passes, IsRefusalOf}
use Rattle.basis_routes.specs.Conversions.{linear_checks}
use Rattle.basis_routes.specs.Places.{position_of, component_checks}
use Rattle.basis_routes.specs.Rows.{Answers}
use Rattle.basis_routes.proofs.Rows.{refused_back}
use Rattle.hopf_ops.proofs.RowsInSteps.{checks_refuse, tests_row}
use Rattle.hopf_ops.proofs.components.antipode.Goals as goal

-- the value has no room
pub returns-in_err-test_linear : goal.returns-in_err-test_linear
returns-in_err-test_linear c =
    let p = err_from_is_err_and c.from_residual-in_err-test_linear.result c.from_residual-in_err-test_linear.ensures.1 in
    let a = c.args.a.now in
    let n = position_of c.args.at in
    let there : All Passes (component_checks c.args.at (length a.bases)) = search rules in
    let refused : IsRefusalOf (linear_checks a) c.in_err-test_linear.field-0.0 = search rules in
    rw (p.1, p.2) (checks_refuse (component_checks c.args.at (length a.bases) ++ linear_checks a) (Answers a.bases (applied antipode n (reading_of a))) c.in_err-test_linear.field-0.0
    (refused_back (component_checks c.args.at (length a.bases)) (linear_checks a) c.in_err-test_linear.field-0.0 there refused))

-- all checks pass
pub returns-in-Ok : goal.returns-in-Ok
returns-in-Ok c =
    let a = c.args.a.now in
    let n = position_of c.args.at in
    let there : All Passes (component_checks c.args.at (length a.bases)) = search rules in
    let room : All Passes (linear_checks a) = search rules in
    let place : c.in_ok-component.component - 1 ≡ n = omega (arith, c.in_ok-component.ensures.value) in
    let value : Expands a.bases (applied antipode n (reading_of a)) c.in-Ok.value =
    subst (λ (m : ℕ). Expands (a.bases) (applied antipode m (reading_of a)) c.in-Ok.value) place c.in-Ok.ensures in
    tests_row (component_checks c.args.at (length a.bases) ++ linear_checks a) a.bases (applied antipode n (reading_of a)) (Ok c.in-Ok.value)
    (All-append Passes (component_checks c.args.at (length a.bases)) (linear_checks a) there room) value
