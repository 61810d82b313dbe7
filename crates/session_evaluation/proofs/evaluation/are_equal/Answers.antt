use Rattle.std.proofs.Common.{subst}
use Rattle.std.proofs.lemmas.Result.{err_from_is_err_and}
use Rattle.hopf_laws.specs.Values.{Expansion}
use Rattle.hopf_ops.specs.Operations.{EqualRow}
use Rattle.session_evaluation.specs.Evaluation.{OrMemory, Allows}
use Rattle.session_evaluation.specs.EvaluationSteps.{held}
use Rattle.session_evaluation.proofs.Comparisons.{compares_first, compares_second, compares_values}
use Rattle.session_evaluation.proofs.evaluation.are_equal.Goals as goal

pub returns-in_err-first : goal.returns-in_err-first
returns-in_err-first c =
    let p = err_from_is_err_and c.from_residual.result c.from_residual.ensures.1 in
    rw (p.1, p.2) (compares_first c.args.names.now c.args.x.now c.args.y.now c.in_err-first.field-0.0 c.in_err-first.ensures)

pub returns-in_err-second : goal.returns-in_err-second
returns-in_err-second c =
    let p = err_from_is_err_and c.from_residual-in_err-second.result c.from_residual-in_err-second.ensures.1 in
    rw (p.1, p.2) (compares_second c.args.names.now c.args.x.now c.args.y.now (held c.in_ok-first.first) c.in_err-second.field-0.0 c.in_ok-first.ensures c.in_err-second.ensures)

pub returns : goal.returns
returns c =
    compares_values c.args.names.now c.args.x.now c.args.y.now (held c.in_ok-first.first) (held c.in_ok-second.second) c.compared.result c.in_ok-first.ensures c.in_ok-second.ensures
    (subst (λ (b : Expansion). OrMemory (Allows (EqualRow (held c.in_ok-first.first) b)) c.compared.result) c.value-2.ensures
    (subst (λ (a : Expansion). OrMemory (Allows (EqualRow a c.value-2.result.now)) c.compared.result) c.value.ensures c.compared.ensures))
