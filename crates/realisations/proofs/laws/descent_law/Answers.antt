use Rattle.realisations.proofs.DescentCompositions.{descends}
use Rattle.realisations.proofs.laws.descent_law.Goals as goal

pub returns : goal.returns
returns c = descends
