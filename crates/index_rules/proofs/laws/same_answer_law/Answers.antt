use Rattle.index_rules.proofs.UniqueAnswers.{same_answers}
use Rattle.index_rules.proofs.laws.same_answer_law.Goals as goal

pub returns : goal.returns
returns c = same_answers
