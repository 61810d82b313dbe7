-- Nothing here need be believed: codes of trees within a limit, as they are put together.
use Rattle.std.specs.Prelude.{ℕ, suc, ◌+◌, true, nat_lt, if◌then◌else◌, ◌∷◌, ◌++◌, length, Option, Some, None}
use Rattle.realisations.specs.Codes.{Code}
use Rattle.realisations.specs.Trees.{Tree, tree_size, tree_code}
use Rattle.index_spellings.specs.Indices.{code_within}

-- the code of a tree of a size within the limit
abbrev pub code_of_tree : ℕ → Option Tree → Option Code
code_of_tree limit tree = code_within limit (λ t. true) tree_size tree_code tree

-- the code of the node over the trees with these codes, where its size is within the limit
abbrev pub node_within : ℕ → Code → Code → Option Code
node_within limit left right = if nat_lt (length left + length right) limit then Some (left ++ suc (length right) ∷ right) else None
