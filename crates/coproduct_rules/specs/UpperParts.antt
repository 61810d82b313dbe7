-- Upper parts of binary trees: sets of nodes that hold with each node its parent (Loday, Ronco 1998).
use Rattle.std.specs.Prelude.{◌≡◌, ℕ, ◌+◌, ◌*◌, ◌^◌, ◌≤◌, pos, List, [], ◌∷◌, ◌++◌, map, length}
use Rattle.std.specs.List.{AllByRecursion, flat_map}
use Rattle.basis_names.specs.declared.bases.BasisId.TheVariants.{PbtP}
use Rattle.realisations.specs.Codes.{Code}
use Rattle.realisations.specs.IndexKinds.{IsTreeCode}
use Rattle.realisations.specs.Points.{word, Point, IsPoint}
use Rattle.realisations.specs.Readings.{Reading, leaf, product, element, AgreeAt}
use Rattle.realisations.specs.Trees.{Tree, empty, node, tree_size, tree_code}

-- for each upper part, the nonempty subtrees that hang below it, from left to right, and the tree of the part: of a node the part is empty, and the whole tree hangs below it, or it has the root and upper parts of both subtrees
abbrev pub upper_parts : Tree → List (List Tree × Tree)
upper_parts empty = ([], empty) ∷ []
upper_parts (node left right) =
    (node left right ∷ [], empty) ∷ flat_map (λ a. map (λ b. (a.0 ++ b.0, node a.1 b.1)) (upper_parts right)) (upper_parts left)

-- the product of the elements of some trees, from left to right
abbrev pub product_of_trees : List Tree → Reading
product_of_trees [] = element PbtP []
product_of_trees (tree ∷ trees) = product (element PbtP (tree_code tree)) (product_of_trees trees)

-- how many nodes some trees have
abbrev pub forest_size : List Tree → ℕ
forest_size [] = 0
forest_size (tree ∷ trees) = tree_size tree + forest_size trees

-- a rule of products: for any trees it lists codes of trees with as many nodes in all, which read as the product of their elements at all points, and at most 16^n of them
pub record AreProducts (products : List Tree → List Code) : Type 0 where
  pub reads : (trees : List Tree) (u : Point) → IsPoint word u → AgreeAt (leaf (PbtP ∷ []) 1 (map (λ code. (pos 1, code ∷ [])) (products trees))) (product_of_trees trees) (u ∷ [])
  pub indices : (trees : List Tree) → AllByRecursion (λ code. IsTreeCode code × (length code ≡ forest_size trees)) (products trees)
  pub few : (trees : List Tree) → length (products trees) ≤ 2 ^ (4 * forest_size trees)

-- from products of trees, listed by their codes, the pairs of a code of such a product of hanging subtrees and the code of the upper part
abbrev pub upper_cuts : (List Tree → List Code) → Tree → List (Code × Code)
upper_cuts products tree = flat_map (λ e. map (λ code. (code, tree_code e.1)) (products e.0)) (upper_parts tree)
