-- The trees of the program as those of the definitions.
use Rattle.realisations.specs.Trees as trees
use Rattle.binary_trees.specs.declared.tree.Tree.{Tree}
use Rattle.binary_trees.specs.declared.tree.Tree.TheVariants.{Empty, Node'}

-- the same tree
abbrev pub shape_of : Tree → trees.Tree
shape_of Empty = trees.empty
shape_of (Node' p left q right) = trees.node (shape_of left) (shape_of right)
