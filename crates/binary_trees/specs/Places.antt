-- Nothing here need be believed: places in words and codes, which the code goes by. The public contracts speak of trees alone.
use Rattle.std.specs.Prelude.{◌≡◌, ℕ, suc, ◌+◌, ◌≤◌, ◌<◌, IsTrue, List, [], ◌∷◌, ◌++◌, length, map, take, drop, slice_index_or}
use Rattle.std.specs.List.{AllByRecursion}
use Rattle.realisations.specs.Codes.{Code}
use Rattle.realisations.specs.IndexKinds.{IsTreeCode}
use Rattle.realisations.specs.Trees.{tree_code, tree_of}
use Rattle.linear_combos.specs.Codes.{all_letters}
use Rattle.tree_laws.specs.TreeProducts.{tree_products}
use Rattle.binary_trees.specs.Sizes.{IsTreeCodeOf}

-- the place of the last greatest letter of a word
pub record IsLastGreatest (w : List ℕ) (at : ℕ) : Type 0 where
  pub in_range : at < length w
  pub front : AllByRecursion (λ y. y ≤ slice_index_or w at 0) (take at w)
  pub back : AllByRecursion (λ y. y < slice_index_or w at 0) (drop (suc at) w)

-- the code of a tree with a node more, whose letters after the first one are these
pub record IsLonger (code longer : Code) : Type 0 where
  pub tree : IsTreeCodeOf (suc (length code)) longer
  pub rest : drop 1 longer ≡ code

-- the code of a tree of less than 12 nodes
pub record IsShorter (code : Code) : Type 0 where
  pub tree : IsTreeCode code
  pub small : length code ≤ 11

-- letters before, the codes of two trees, and letters after, at most 15 in all
pub record AreParts (front t u rest : List ℕ) : Type 0 where
  pub first : IsTreeCode t
  pub second : IsTreeCode u
  pub short : length front + length t + length u + length rest ≤ 15
  pub before : IsTrue (all_letters front)
  pub after : IsTrue (all_letters rest)

-- the codes of the trees of the product of two trees by their codes, each between letters before and after
abbrev pub products_between : Code → Code → Code → Code → List Code
products_between front t u rest = map (λ v. front ++ (tree_code v ++ rest)) (tree_products (tree_of t) (tree_of u))

-- pairs of codes of trees, of at most 11 nodes in all
pub record AreSides (a b : Code × Code) : Type 0 where
  pub left_below : IsTreeCode a.0
  pub left_part : IsTreeCode a.1
  pub right_below : IsTreeCode b.0
  pub right_part : IsTreeCode b.1
  pub few : length a.0 + length a.1 + (length b.0 + length b.1) ≤ 11

-- each code of a list, with the same code
abbrev pub each_with : Code → List Code → List (Code × Code)
each_with part codes = map (λ z. (z, part)) codes

-- the pairs that an upper part of the left subtree and one of the right subtree make, by codes
abbrev pub joined_codes : Code × Code → Code × Code → List (Code × Code)
joined_codes a b = each_with (a.1 ++ (suc (length b.1) ∷ b.1)) (products_between [] a.0 b.0 [])
