use Rattle.product_laws.proofs.AddedElements.{answers}
use Rattle.product_laws.proofs.laws.answer_law.Goals as goal

pub returns : goal.returns
returns c = answers
