use Rattle.inclusion_laws.proofs.InclusionsOfClasses.{determining}
use Rattle.inclusion_laws.proofs.laws.determining_law.Goals as goal

pub returns : goal.returns
returns c = determining
