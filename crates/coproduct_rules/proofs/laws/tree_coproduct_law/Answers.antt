use Rattle.coproduct_rules.proofs.UpperPairs.{tree_rule}
use Rattle.coproduct_rules.proofs.laws.tree_coproduct_law.Goals as goal

pub returns : goal.returns
returns c = tree_rule
