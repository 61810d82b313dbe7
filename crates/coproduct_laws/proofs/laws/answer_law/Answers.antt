use Rattle.coproduct_laws.proofs.AddedPairs.{answers}
use Rattle.coproduct_laws.proofs.laws.answer_law.Goals as goal

pub returns : goal.returns
returns c = answers
