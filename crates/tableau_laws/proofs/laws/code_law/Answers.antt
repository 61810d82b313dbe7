use Rattle.tableau_laws.proofs.LatticeWords.{codes}
use Rattle.tableau_laws.proofs.laws.code_law.Goals as goal

pub returns : goal.returns
returns c = codes
