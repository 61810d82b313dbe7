use Rattle.inclusion_laws.proofs.InclusionsOfClasses.{tableaux_included}
use Rattle.inclusion_laws.proofs.laws.tableau_law.Goals as goal

pub returns : goal.returns
returns c = tableaux_included
