-- The coproduct of a binary tree, by its upper parts: sets of nodes that hold with each node its parent (Loday, Ronco 1998).
use Rattle.std.specs.Prelude.{List, [], ◌∷◌, map}
use Rattle.std.specs.List.{flat_map}
use Rattle.realisations.specs.Codes.{Code}
use Rattle.realisations.specs.Trees.{Tree, empty, node, tree_code}
use Rattle.tree_laws.specs.TreeProducts.{tree_products}

-- pairs of trees
abbrev pub TreePairs : Type 0
TreePairs = List (Tree × Tree)

-- for an upper part with v in the left subtree and w in the right one, and x and y of the products of what hangs below these: the trees of the product of x and y, each with the node [v, w]
abbrev pub joined_pairs : Tree × Tree → Tree × Tree → TreePairs
joined_pairs a b = map (λ z. (z, node a.1 b.1)) (tree_products a.0 b.0)

-- for each upper part of a tree, each tree of the product of the subtrees that hang below it, from left to right, with the part: of a node the part is empty, and the whole tree hangs below it, or it has the root and upper parts of both subtrees
abbrev pub upper_pairs : Tree → TreePairs
upper_pairs empty = (empty, empty) ∷ []
upper_pairs (node l r) = (node l r, empty) ∷ flat_map (λ a. flat_map (λ b. joined_pairs a b) (upper_pairs r)) (upper_pairs l)

-- their codes
abbrev pub upper_codes : Tree → List (Code × Code)
upper_codes tree = map (λ e. (tree_code e.0, tree_code e.1)) (upper_pairs tree)
