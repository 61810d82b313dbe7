use Rattle.inclusion_laws.proofs.InclusionsOfClasses.{inverses}
use Rattle.inclusion_laws.proofs.laws.inverse_law.Goals as goal

pub returns : goal.returns
returns c = inverses
