use Rattle.product_laws.proofs.TreeRoots.{by_roots}
use Rattle.product_laws.proofs.laws.tree_roots_law.Goals as goal

pub returns : goal.returns
returns c = by_roots
