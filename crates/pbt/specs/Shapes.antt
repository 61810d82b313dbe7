-- Trees by their codes, for the contracts of private functions.
use Rattle.std.specs.Prelude.{◌≡◌, ◌≤◌}
use Rattle.realisations.specs.Codes.{Code}
use Rattle.realisations.specs.Trees.{Tree, tree_code, tree_size}

-- the tree has the code, and at most 12 nodes
pub record HasCode (code : Code) (tree : Tree) : Type 0 where
  pub same : tree_code tree ≡ code
  pub small : tree_size tree ≤ 12
