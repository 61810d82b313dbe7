use Rattle.index_rules.proofs.LiftsExist.{products_exist}
use Rattle.index_rules.proofs.laws.products_exist_law.Goals as goal

pub returns : goal.returns
returns c = products_exist
