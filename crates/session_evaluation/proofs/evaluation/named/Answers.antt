use Rattle.std.proofs.Common.{inr, refl}
use Rattle.session_evaluation.proofs.EvaluationSteps.{found, lost}
use Rattle.session_evaluation.proofs.evaluation.named.Goals as goal

pub returns-in-Some : goal.returns-in-Some
returns-in-Some c = inr (found c.args.names.now c.args.name.now c.as_slice.result.now c.get.result c.in-Some.value c.in-Some.value.now c.get.ensures c.as_slice.ensures c.in-Some.is refl)

pub returns-in-None : goal.returns-in-None
returns-in-None c = lost c.args.names.now c.args.name.now c.as_slice.result.now c.get.result c.unknown.result c.get.ensures c.as_slice.ensures c.in-None.is c.unknown.ensures
