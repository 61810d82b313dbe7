use Rattle.product_laws.proofs.RulesExist.{products_exist}
use Rattle.product_laws.proofs.laws.existence_law.Goals as goal

pub returns : goal.returns
returns c = products_exist
