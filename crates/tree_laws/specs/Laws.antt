-- Laws of binary trees. Public functions with empty bodies ensure them (`src/laws.rt`).
use Rattle.std.specs.Prelude.{◌≡◌, ℕ, suc, ◌+◌, ◌≤◌, IsTrue, List, [], ◌∷◌, length, map, take}
use Rattle.realisations.specs.Codes.{Code}
use Rattle.realisations.specs.IndexKinds.{IsTreeCode, is_permutation}
use Rattle.realisations.specs.Standardisation.{inverse}
use Rattle.realisations.specs.Trees.{Tree, decreasing_tree, tree_code, tree_size}
use Rattle.tree_laws.specs.SearchTrees.{search_tree, shape}
use Rattle.tree_laws.specs.TreeProducts.{IsInProduct, IsProductCode, tree_products}
use Rattle.word_laws.specs.AddedCodes.{AddsEach}

-- n + 1 before letters is the code of a tree exactly where these letters are, and the first n of them are: those of the right subtree of the first node
pub record CodeLaw : Type 0 where
  pub later : (n : ℕ) (code : Code) → IsTreeCode (suc n ∷ code) → IsTreeCode code
  pub front : (n : ℕ) (code : Code) → IsTreeCode (suc n ∷ code) → IsTreeCode (take n code)
  pub longer : (n : ℕ) (code : Code) → n ≤ length code → IsTreeCode code → IsTreeCode (take n code) → IsTreeCode (suc n ∷ code)

-- a tree of the product of two trees has as many nodes as both, and each of these trees is listed once (Loday, Ronco 1998)
pub record ProductLaw : Type 0 where
  pub sizes : (t u v : Tree) → IsInProduct t u v → tree_size v ≡ tree_size t + tree_size u
  pub listed : (t u : Tree) → AddsEach (IsProductCode t u) [] (map tree_code (tree_products t u))

-- the binary search tree of a permutation has the shape of the decreasing tree of its inverse (Hivert, Novelli, Thibon 2005)
abbrev pub SearchTreeLaw : Type 0
SearchTreeLaw = (s : List ℕ) → IsTrue (is_permutation s) → shape (search_tree s) ≡ decreasing_tree (inverse s)
