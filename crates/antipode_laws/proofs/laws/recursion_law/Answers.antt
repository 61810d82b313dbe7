use Rattle.antipode_laws.proofs.RecursionAnswers.{recursion_law}
use Rattle.antipode_laws.proofs.laws.recursion_law.Goals as goal

pub returns : goal.returns
returns c = recursion_law
