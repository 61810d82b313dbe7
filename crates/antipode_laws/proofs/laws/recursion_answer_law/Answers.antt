use Rattle.antipode_laws.proofs.RecursionAnswers.{recursion_answer}
use Rattle.antipode_laws.proofs.laws.recursion_answer_law.Goals as goal

pub returns : goal.returns
returns c = recursion_answer
