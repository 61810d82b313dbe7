-- Binary search trees (Hivert, Novelli, Thibon 2005).
use Rattle.std.specs.Prelude.{ℕ, List, [], ◌∷◌, nat_lt, if◌then◌else◌}
use Rattle.realisations.specs.Trees.{Tree, empty, node}

-- a binary tree with a letter at each node
pub data SearchTree : Type 0 where
  nothing : SearchTree
  letter : SearchTree → ℕ → SearchTree → SearchTree

-- a letter enters: to the left of the greater letters, and to the right of those that are not
abbrev pub enter_tree : ℕ → SearchTree → SearchTree
enter_tree x nothing = letter nothing x nothing
enter_tree x (letter left y right) = if nat_lt x y then letter (enter_tree x left) y right else letter left y (enter_tree x right)

-- the letters of a word enter from right to left
abbrev pub search_tree : List ℕ → SearchTree
search_tree [] = nothing
search_tree (x ∷ w) = enter_tree x (search_tree w)

-- the shape of a search tree
abbrev pub shape : SearchTree → Tree
shape nothing = empty
shape (letter left x right) = node (shape left) (shape right)
