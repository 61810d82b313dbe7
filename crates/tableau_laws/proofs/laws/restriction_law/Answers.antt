use Rattle.tableau_laws.proofs.StandardIntervals.{restriction}
use Rattle.tableau_laws.proofs.laws.restriction_law.Goals as goal

pub returns : goal.returns
returns c = restriction
