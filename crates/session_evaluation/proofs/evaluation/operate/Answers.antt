use Rattle.std.proofs.Common.{refl, sym, subst}
use Rattle.std.proofs.lemmas.Result.{err_from_is_err_and}
use Rattle.hopf_laws.specs.Values.{Expansion}
use Rattle.hopf_ops.specs.declared.operator.Operator.TheVariants.{Times}
use Rattle.session_evaluation.specs.Evaluation.{OrMemory, Operates}
use Rattle.session_evaluation.specs.EvaluationSteps.{held}
use Rattle.hopf_ops.specs.contracts.operator.Operator.{the_type}
use denote.Enum.Bare.{same_true}
use Rattle.session_evaluation.proofs.Operations.{operated_as}
use Rattle.session_evaluation.proofs.EvaluationSteps.{wanting, kept_is}
use Rattle.session_evaluation.proofs.evaluation.operate.Goals as goal

pub returns-in_err-second : goal.returns-in_err-second
returns-in_err-second c =
    let p = err_from_is_err_and c.from_residual.result c.from_residual.ensures.1 in
    rw (p.1, p.2) (wanting (Operates c.args.operator (held c.args.a) (held c.args.b)) (held c.args.b) c.in_err-second.field-0.0 c.in_err-second.ensures)

pub returns-then-rank-eq0 : goal.returns-then-rank-eq0
returns-then-rank-eq0 c =
    let a = c.value-then-rank-eq0.result.now in
    let b = c.in_ok-second.second in
    subst (λ (a : Expansion). OrMemory (Operates c.args.operator a (held c.args.b)) c.told_of.result) c.value-then-rank-eq0.ensures
    (subst (λ (b : Expansion). OrMemory (Operates c.args.operator a b) c.told_of.result) (kept_is (held c.args.b) b c.in_ok-second.ensures)
    (operated_as c.args.operator Times a b c.told_of.result c.times_onto.result c.times_onto.result (same_true the_type tt c.args.operator Times (sym c.if-eq.ensures)) c.told_of.ensures refl c.times_onto.ensures))
