use Rattle.std.proofs.Common.{Ok, sym, subst}
use Rattle.std.specs.Prelude.{max, unwrap_or}
use Rattle.std.proofs.lemmas.Result.{err_from_is_err_and}
use Rattle.hopf_laws.specs.Values.{Expansion, degree_of_value}
use Rattle.basis_routes.specs.Conversions.{Converts}
use Rattle.hopf_ops.proofs.SumsOfOperands.{same_targets, sum_passes, sum_first, sum_second}
use Rattle.hopf_ops.proofs.sums.sum_over.Goals as goal

-- what both came to is over the same bases
pub sum_of_same-requires : goal.sum_of_same-requires
sum_of_same-requires c =
    let targets = c.args.targets.now in
    let a = c.args.a.now in
    let b = c.args.b.now in
    let x = c.made_or_given.result.now in
    let y = c.made_or_given-2.result.now in
    let hx : Converts targets a (Ok x) = subst (λ (v : Expansion). Converts targets a (Ok v)) (sym c.made_or_given.ensures) c.in_ok-x.ensures.value in
    let hy : Converts targets b (Ok y) = subst (λ (v : Expansion). Converts targets b (Ok v)) (sym c.made_or_given-2.ensures) c.in_ok-y.ensures.value in
    record { same = same_targets targets (max (degree_of_value a) (degree_of_value b)) a b x y c.requires hx hy }

-- both are converted, where they have to be
pub returns : goal.returns
returns c =
    let targets = c.args.targets.now in
    let a = c.args.a.now in
    let b = c.args.b.now in
    let x = c.made_or_given.result.now in
    let y = c.made_or_given-2.result.now in
    let hx : Converts targets a (Ok x) = subst (λ (v : Expansion). Converts targets a (Ok v)) (sym c.made_or_given.ensures) c.in_ok-x.ensures.value in
    let hy : Converts targets b (Ok y) = subst (λ (v : Expansion). Converts targets b (Ok v)) (sym c.made_or_given-2.ensures) c.in_ok-y.ensures.value in
    sum_passes c.args.minus targets a b x y (max (degree_of_value a) (degree_of_value b)) c.sum_of_same.result c.requires
    hx hy c.sum_of_same.ensures.checks c.sum_of_same.ensures.value

-- the conversions of the first operand are refused
pub returns-in_err-x : goal.returns-in_err-x
returns-in_err-x c =
    let p = err_from_is_err_and c.from_residual.result c.from_residual.ensures.1 in
    rw (p.1, p.2) (sum_first c.args.minus c.args.targets.now c.args.a.now c.args.b.now c.in_err-x.field-0.0 c.in_err-x.ensures.refusal)

-- or those of the second one
pub returns-in_err-y : goal.returns-in_err-y
returns-in_err-y c =
    let a = c.args.a.now in
    let p = err_from_is_err_and c.from_residual-in_err-y.result c.from_residual-in_err-y.ensures.1 in
    rw (p.1, p.2) (sum_second c.args.minus c.args.targets.now a c.args.b.now (unwrap_or c.in_ok-x.x a) c.in_err-y.field-0.0 c.in_ok-x.ensures.value c.in_err-y.ensures.refusal)
