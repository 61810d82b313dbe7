-- Binary trees, and the decreasing tree of a word (Hivert, Novelli, Thibon 2005).
use Rattle.std.specs.Prelude.{ℕ, zero, suc, ◌+◌, if◌then◌else◌, List, [], ◌∷◌, ◌++◌, length, nat_eq}
use Rattle.realisations.specs.Lists.{is_among}
use Rattle.realisations.specs.Words.{greatest}

-- a binary tree: empty, or a node with a left and a right subtree
pub data Tree : Type 0 where
  empty : Tree
  node : Tree → Tree → Tree

-- how many nodes there are
abbrev pub tree_size : Tree → ℕ
tree_size empty = 0
tree_size (node left right) = suc (tree_size left + tree_size right)

-- the code of a tree: for the nodes in infix order, 1 plus the number of nodes of the right subtree
abbrev pub tree_code : Tree → List ℕ
tree_code empty = []
tree_code (node left right) = tree_code left ++ suc (tree_size right) ∷ tree_code right

-- what stands before the last letter m
abbrev pub before_last : ℕ → List ℕ → List ℕ
before_last m [] = []
before_last m (x ∷ w) = if is_among m w then x ∷ before_last m w else (if nat_eq x m then [] else x ∷ before_last m w)

-- what stands after the last letter m
abbrev pub after_last : ℕ → List ℕ → List ℕ
after_last m [] = []
after_last m (x ∷ w) = if is_among m w then after_last m w else (if nat_eq x m then w else after_last m w)

-- the decreasing tree of a word of at most n letters
abbrev pub decreasing_within : ℕ → List ℕ → Tree
decreasing_within zero w = empty
decreasing_within (suc n) [] = empty
decreasing_within (suc n) (x ∷ w) =
    node (decreasing_within n (before_last (greatest (x ∷ w)) (x ∷ w))) (decreasing_within n (after_last (greatest (x ∷ w)) (x ∷ w)))

-- dec(w), the shape of the decreasing tree: its root is the last greatest letter, with the trees of what stands before and after that letter on the left and on the right
abbrev pub decreasing_tree : List ℕ → Tree
decreasing_tree w = decreasing_within (length w) w

-- for the nodes of a tree in infix order, the number of nodes of the subtree: a word with this decreasing tree
abbrev pub subtree_sizes : Tree → List ℕ
subtree_sizes empty = []
subtree_sizes (node left right) = subtree_sizes left ++ suc (tree_size left + tree_size right) ∷ subtree_sizes right

-- what stands before the root in the code of a tree: before the first letter that is the number of letters from it on
abbrev pub before_root : List ℕ → List ℕ
before_root [] = []
before_root (k ∷ code) = if nat_eq k (suc (length code)) then [] else k ∷ before_root code

-- what stands after it
abbrev pub after_root : List ℕ → List ℕ
after_root [] = []
after_root (k ∷ code) = if nat_eq k (suc (length code)) then code else after_root code

-- the tree of a code of at most n letters
abbrev pub tree_within : ℕ → List ℕ → Tree
tree_within zero code = empty
tree_within (suc n) [] = empty
tree_within (suc n) (k ∷ code) = node (tree_within n (before_root (k ∷ code))) (tree_within n (after_root (k ∷ code)))

-- the tree of a code
abbrev pub tree_of : List ℕ → Tree
tree_of code = tree_within (length code) code
