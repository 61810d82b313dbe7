use Rattle.std.proofs.Common.{Ok, inl, inr, sym, subst}
use Rattle.std.specs.Prelude.{max, unwrap_or}
use Rattle.std.proofs.lemmas.Result.{err_from_is_err_and}
use Rattle.hopf_laws.specs.Values.{Expansion, degree_of_value}
use Rattle.basis_routes.specs.Conversions.{Converts}
use Rattle.hopf_ops.specs.Operations.{BothBrought}
use Rattle.hopf_ops.proofs.EqualValues.{compared_agree, refused_after, second_refused}
use Rattle.hopf_ops.proofs.RowsInSteps.{step_refuses}
use Rattle.hopf_ops.proofs.SumsOfOperands.{same_targets}
use Rattle.hopf_ops.proofs.equality.equal_over.Goals as goal

-- what both came to is over the same bases
pub are_same-requires : goal.are_same-requires
are_same-requires c =
    let targets = c.args.targets.now in
    let a = c.args.a.now in
    let b = c.args.b.now in
    let x = c.made_or_given.result.now in
    let y = c.made_or_given-2.result.now in
    let hx : Converts targets a (Ok x) = subst (λ (v : Expansion). Converts targets a (Ok v)) (sym c.made_or_given.ensures) c.in_ok-x.ensures.value in
    let hy : Converts targets b (Ok y) = subst (λ (v : Expansion). Converts targets b (Ok v)) (sym c.made_or_given-2.ensures) c.in_ok-y.ensures.value in
    same_targets targets (max (degree_of_value a) (degree_of_value b)) a b x y c.requires hx hy

-- both are converted, where they have to be, and compared
pub returns : goal.returns
returns c =
    let targets = c.args.targets.now in
    let a = c.args.a.now in
    let b = c.args.b.now in
    let x = c.made_or_given.result.now in
    let y = c.made_or_given-2.result.now in
    let hx : Converts targets a (Ok x) = subst (λ (v : Expansion). Converts targets a (Ok v)) (sym c.made_or_given.ensures) c.in_ok-x.ensures.value in
    let hy : Converts targets b (Ok y) = subst (λ (v : Expansion). Converts targets b (Ok v)) (sym c.made_or_given-2.ensures) c.in_ok-y.ensures.value in
    inr ((y, inl (x, hx, hy)), compared_agree targets (max (degree_of_value a) (degree_of_value b)) a b c.requires x y c.are_same.result hx hy c.are_same.ensures)

-- the conversions of the first operand are refused
pub returns-in_err-x : goal.returns-in_err-x
returns-in_err-x c =
    let targets = c.args.targets.now in
    let a = c.args.a.now in
    let b = c.args.b.now in
    let p = err_from_is_err_and c.from_residual.result c.from_residual.ensures.1 in
    rw (p.1, p.2) (refused_after (BothBrought targets a b) targets a b c.in_err-x.field-0.0
    (step_refuses (Converts targets a) (λ (v : Expansion). Converts targets b) c.in_err-x.field-0.0 c.in_err-x.ensures.refusal))

-- or those of the second one
pub returns-in_err-y : goal.returns-in_err-y
returns-in_err-y c =
    let targets = c.args.targets.now in
    let a = c.args.a.now in
    let b = c.args.b.now in
    let p = err_from_is_err_and c.from_residual-in_err-y.result c.from_residual-in_err-y.ensures.1 in
    rw (p.1, p.2) (refused_after (BothBrought targets a b) targets a b c.in_err-y.field-0.0
    (second_refused targets a b (unwrap_or c.in_ok-x.x a) c.in_err-y.field-0.0 c.in_ok-x.ensures.value c.in_err-y.ensures.refusal))
