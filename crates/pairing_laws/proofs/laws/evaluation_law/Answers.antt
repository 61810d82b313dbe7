use Rattle.pairing_laws.proofs.Evaluations.{evaluations}
use Rattle.pairing_laws.proofs.laws.evaluation_law.Goals as goal

pub returns : goal.returns
returns c = evaluations
