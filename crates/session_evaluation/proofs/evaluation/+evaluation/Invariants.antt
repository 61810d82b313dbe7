use Rattle.std.proofs.Common.{drop}
use Rattle.session_evaluation.specs.EvaluationSteps.{held, steps_of}
use Rattle.session_evaluation.proofs.EvaluationSteps.{Remains}
use Rattle.session_evaluation.proofs.evaluation.+evaluation.Given as goal

abbrev pub invariant-value_of_operation-loop-i : goal.invariant-value_of_operation-loop-i
invariant-value_of_operation-loop-i l = Remains l.names l.x (held l.value) (drop l.i (steps_of l.x))
