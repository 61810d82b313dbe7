use Rattle.std.proofs.Common.{suc}
use Rattle.tree_laws.proofs.FirstNodes.{front_is_tree, longer_is_tree, rest_is_tree}
use Rattle.tree_laws.proofs.laws.code_law.Goals as goal

pub returns : goal.returns
returns c = record { later = λ n code h. rest_is_tree (suc n) code h; front = front_is_tree; longer = longer_is_tree }
