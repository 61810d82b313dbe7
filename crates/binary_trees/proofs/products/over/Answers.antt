use Rattle.tree_laws.specs.TreeProducts.{IsProductCode}
use Rattle.permutation_words.proofs.CanonicalOrder.{sorted_lists}
use Rattle.binary_trees.specs.Shapes.{shape_of}
use Rattle.binary_trees.proofs.ProductCodes.{product_codes, start_parts}
use Rattle.binary_trees.proofs.products.over.Goals as goal

pub push_products-requires : goal.push_products-requires
push_products-requires c = start_parts (shape_of c.args.left.now) (shape_of c.args.right.now) c.empty-none.result c.code.result c.code-2.result c.requires c.empty-none.ensures c.code.ensures c.code-2.ensures

pub returns : goal.returns
returns c =
    sorted_lists (IsProductCode (shape_of c.args.left.now) (shape_of c.args.right.now)) c.push_products.new.out c.sort.new.self
    (product_codes (shape_of c.args.left.now) (shape_of c.args.right.now) c.empty-none.result c.code.result c.code-2.result c.new-codes.result c.push_products.new.out c.empty-none.ensures c.code.ensures c.code-2.ensures c.new-codes.ensures c.in_ok-push_products.ensures)
    c.sort.ensures.permutation c.sort.ensures.sorted
