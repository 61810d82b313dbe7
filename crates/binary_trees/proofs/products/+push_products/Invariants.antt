use Rattle.std.proofs.Common.{◌+◌, length}
use Rattle.binary_trees.proofs.products.+push_products.Given as goal

abbrev pub decreases-push_products : goal.decreases-push_products
decreases-push_products l = length l.t.now + length l.u.now
