use Rattle.product_laws.proofs.GatheredElements.{sums_answer}
use Rattle.product_laws.proofs.laws.sum_law.Goals as goal

pub returns : goal.returns
returns c = sums_answer
