use Rattle.std.proofs.Common.{inr, Ok, refl, sym, ap, subst}
use Rattle.hopf_laws.specs.Values.{Expansion}
use Rattle.hopf_ops.specs.Operations.{NegationRow}
use Rattle.session_evaluation.specs.Evaluation.{OrMemory, Allows}
use Rattle.session_evaluation.specs.EvaluationSteps.{held}
use Rattle.session_evaluation.proofs.Operations.{allows_told}
use Rattle.session_evaluation.proofs.evaluation.opposite.Goals as goal

pub returns-in-Known : goal.returns-in-Known
returns-in-Known c =
    subst (λ (a : Expansion). OrMemory (Allows (NegationRow a)) c.told_of.result) (sym (ap held c.in-Known.is))
    (allows_told (NegationRow c.in-Known.a.now) c.told_of.result c.negate.result c.told_of.ensures c.negate.ensures)

pub returns-in-Made : goal.returns-in-Made
returns-in-Made c =
    subst (λ (a : Expansion). OrMemory (Allows (NegationRow a)) (Ok c.negated.result)) (sym (ap held c.in-Made.is))
    (inr (Ok c.negated.result, (c.negated.result, c.negated.ensures, refl), refl))
