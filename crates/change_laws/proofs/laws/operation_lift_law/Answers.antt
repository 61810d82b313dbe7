use Rattle.change_laws.proofs.Lifts.{operation_lifts}
use Rattle.change_laws.proofs.laws.operation_lift_law.Goals as goal

pub returns : goal.returns
returns c = operation_lifts
