-- The product of two binary trees (Loday, Ronco 1998).
use Rattle.std.specs.Prelude.{◌≡◌, ◌⊎◌, List, [], ◌∷◌, ◌++◌, map}
use Rattle.realisations.specs.Trees.{Tree, empty, node, tree_code}
use Rattle.realisations.specs.Codes.{Code}

-- the third tree is one of the product of the first two: the empty tree is the unit, and the product of T = [A, B] and U = [C, D] has the nodes [A, X] with X of the product of B and U, and the nodes [Y, D] with Y of the product of T and C
abbrev pub IsInProduct : Tree → Tree → Tree → Type 0
IsInProduct empty u v = v ≡ u
IsInProduct (node a b) empty v = v ≡ node a b
IsInProduct (node a b) (node c d) empty = ⊥
IsInProduct (node a b) (node c d) (node l r) = ((l ≡ a) × IsInProduct b (node c d) r) ⊎ ((r ≡ d) × IsInProduct (node a b) c l)

-- the code of a tree of the product
abbrev pub IsProductCode : Tree → Tree → Code → Type 0
IsProductCode left right code = (tree : Tree) × IsInProduct left right tree × (tree_code tree ≡ code)

-- the trees of the product, each once, in the canonical order of their codes: the nodes [Y, D], and then the nodes [A, X]
abbrev pub tree_products : Tree → Tree → List Tree
tree_products empty u = u ∷ []
tree_products (node a b) empty = node a b ∷ []
tree_products (node a b) (node c d) = map (λ y. node y d) (tree_products (node a b) c) ++ map (λ x. node a x) (tree_products b (node c d))
