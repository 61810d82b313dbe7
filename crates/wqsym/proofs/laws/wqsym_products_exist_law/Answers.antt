use Rattle.wqsym.proofs.Products.{monomial_products}
use Rattle.wqsym.proofs.laws.wqsym_products_exist_law.Goals as goal

pub returns : goal.returns
returns c = monomial_products
