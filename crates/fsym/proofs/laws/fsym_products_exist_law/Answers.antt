use Rattle.fsym.proofs.Products.{tableau_products_exist}
use Rattle.fsym.proofs.laws.fsym_products_exist_law.Goals as goal

pub returns : goal.returns
returns c = tableau_products_exist
