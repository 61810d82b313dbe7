use Rattle.tableau_laws.proofs.KnuthClasses.{knuth}
use Rattle.tableau_laws.proofs.laws.knuth_law.Goals as goal

pub returns : goal.returns
returns c = knuth
