use Rattle.change_laws.proofs.Lifts.{change_lifts}
use Rattle.change_laws.proofs.laws.change_lift_law.Goals as goal

pub returns : goal.returns
returns c = change_lifts
