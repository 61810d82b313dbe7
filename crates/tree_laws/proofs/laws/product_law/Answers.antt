use Rattle.tree_laws.proofs.ProductTrees.{lists_products, size_in_product}
use Rattle.tree_laws.proofs.laws.product_law.Goals as goal

pub returns : goal.returns
returns c = record { sizes = size_in_product; listed = lists_products }
