use Rattle.std.proofs.Common.{Ok, sym, subst}
use Rattle.std.specs.Prelude.{max}
use Rattle.std.proofs.lemmas.Result.{err_from_is_err_and}
use Rattle.hopf_laws.specs.Values.{Expansion, degree_of_value}
use Rattle.basis_routes.specs.Conversions.{Converts}
use Rattle.hopf_ops.proofs.RowsInSteps.{value_told}
use Rattle.hopf_ops.proofs.SumsOfOperands.{same_targets, sum_passes, sum_first, sum_second}
use Rattle.hopf_ops.proofs.sums.grown_over.Goals as goal

-- what both came to is over the same bases
pub grown_of_same-requires : goal.grown_of_same-requires
grown_of_same-requires c =
    let targets = c.args.targets.now in
    let a = c.args.a in
    let b = c.args.b.now in
    let x = c.in_ok-x.x in
    let y = c.made_or_given.result.now in
    let hx : Converts targets a (Ok x) = value_told (Converts targets a) x c.in_ok-x.ensures in
    let hy : Converts targets b (Ok y) = subst (λ (v : Expansion). Converts targets b (Ok v)) (sym c.made_or_given.ensures) c.in_ok-y.ensures.value in
    record { same = same_targets targets (max (degree_of_value a) (degree_of_value b)) a b x y c.requires hx hy }

-- both are converted, where they have to be
pub returns : goal.returns
returns c =
    let targets = c.args.targets.now in
    let a = c.args.a in
    let b = c.args.b.now in
    let x = c.in_ok-x.x in
    let y = c.made_or_given.result.now in
    let hx : Converts targets a (Ok x) = value_told (Converts targets a) x c.in_ok-x.ensures in
    let hy : Converts targets b (Ok y) = subst (λ (v : Expansion). Converts targets b (Ok v)) (sym c.made_or_given.ensures) c.in_ok-y.ensures.value in
    sum_passes c.args.minus targets a b x y (max (degree_of_value a) (degree_of_value b)) c.grown_of_same.result c.requires
    hx hy c.grown_of_same.ensures.checks c.grown_of_same.ensures.value

-- the conversions of the first operand are refused
pub returns-in_err-x : goal.returns-in_err-x
returns-in_err-x c =
    let p = err_from_is_err_and c.from_residual.result c.from_residual.ensures.1 in
    rw (p.1, p.2) (sum_first c.args.minus c.args.targets.now c.args.a c.args.b.now c.in_err-x.field-0.0 c.in_err-x.ensures)

-- or those of the second one
pub returns-in_err-y : goal.returns-in_err-y
returns-in_err-y c =
    let a = c.args.a in
    let p = err_from_is_err_and c.from_residual-in_err-y.result c.from_residual-in_err-y.ensures.1 in
    rw (p.1, p.2) (sum_second c.args.minus c.args.targets.now a c.args.b.now c.in_ok-x.x c.in_err-y.field-0.0 (value_told (Converts c.args.targets.now a) c.in_ok-x.x c.in_ok-x.ensures) c.in_err-y.ensures.refusal)
