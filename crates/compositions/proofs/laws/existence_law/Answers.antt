use Rattle.compositions.proofs.Existence.{product_exists}
use Rattle.compositions.proofs.laws.existence_law.Goals as goal

pub returns : goal.returns
returns c = product_exists
