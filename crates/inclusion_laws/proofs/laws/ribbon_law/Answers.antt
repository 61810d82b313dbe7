use Rattle.inclusion_laws.proofs.InclusionsOfClasses.{ribbons_included}
use Rattle.inclusion_laws.proofs.laws.ribbon_law.Goals as goal

pub returns : goal.returns
returns c = ribbons_included
