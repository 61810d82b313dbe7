use Rattle.inclusion_laws.proofs.InclusionsOfClasses.{trees_included}
use Rattle.inclusion_laws.proofs.laws.tree_law.Goals as goal

pub returns : goal.returns
returns c = trees_included
