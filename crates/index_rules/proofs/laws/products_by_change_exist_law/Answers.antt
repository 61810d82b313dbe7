use Rattle.index_rules.proofs.ProductsByChangeExist.{products_by_change_exist}
use Rattle.index_rules.proofs.laws.products_by_change_exist_law.Goals as goal

pub returns : goal.returns
returns c = products_by_change_exist
