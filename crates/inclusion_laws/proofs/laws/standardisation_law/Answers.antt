use Rattle.inclusion_laws.proofs.InclusionsOfClasses.{standardisations}
use Rattle.inclusion_laws.proofs.laws.standardisation_law.Goals as goal

pub returns : goal.returns
returns c = standardisations
