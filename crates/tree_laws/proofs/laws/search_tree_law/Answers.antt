use Rattle.basis_representatives.proofs.Permutations.{each_once}
use Rattle.tree_laws.proofs.SearchTrees.{shape-search_tree}
use Rattle.tree_laws.proofs.laws.search_tree_law.Goals as goal

pub returns : goal.returns
returns c = λ s h. shape-search_tree s (each_once s h)
