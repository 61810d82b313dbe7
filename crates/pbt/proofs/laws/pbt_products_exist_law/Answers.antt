use Rattle.pbt.proofs.Products.{tree_products_exist}
use Rattle.pbt.proofs.laws.pbt_products_exist_law.Goals as goal

pub returns : goal.returns
returns c = tree_products_exist
