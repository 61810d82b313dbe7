use Rattle.separation_laws.proofs.ProvedLaws.{upwards}
use Rattle.separation_laws.proofs.laws.upward_law.Goals as goal

pub returns : goal.returns
returns c = upwards
