use Rattle.product_laws.proofs.TreeRule.{tree_rule}
use Rattle.product_laws.proofs.laws.tree_law.Goals as goal

pub returns : goal.returns
returns c = tree_rule
