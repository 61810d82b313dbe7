use Rattle.separation_laws.proofs.Equality.{equality}
use Rattle.separation_laws.proofs.laws.equality_law.Goals as goal

pub returns : goal.returns
returns c = equality
