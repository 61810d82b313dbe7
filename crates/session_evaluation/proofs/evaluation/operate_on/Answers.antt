use Rattle.std.proofs.Common.{subst}
use Rattle.std.proofs.lemmas.Result.{err_from_is_err_and}
use Rattle.hopf_laws.specs.Values.{Expansion}
use Rattle.session_evaluation.specs.Evaluation.{OrMemory, Operates}
use Rattle.session_evaluation.specs.EvaluationSteps.{held}
use Rattle.session_evaluation.proofs.EvaluationSteps.{wanting, kept_is}
use Rattle.session_evaluation.proofs.evaluation.operate_on.Goals as goal

pub returns-in_err-first : goal.returns-in_err-first
returns-in_err-first c =
    let p = err_from_is_err_and c.from_residual.result c.from_residual.ensures.1 in
    rw (p.1, p.2) (wanting (Operates c.args.operator (held c.args.a) c.args.b.now) (held c.args.a) c.in_err-first.field-0.0 c.in_err-first.ensures)

pub returns-then-is_changed_copy : goal.returns-then-is_changed_copy
returns-then-is_changed_copy c =
    subst (λ (a : Expansion). OrMemory (Operates c.args.operator a c.args.b.now) c.operate_from.result) (kept_is (held c.args.a) c.in_ok-first.first c.in_ok-first.ensures) c.operate_from.ensures
