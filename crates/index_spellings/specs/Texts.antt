-- The texts of indices.
use Rattle.std.specs.Prelude.{ℕ, List, [], ◌∷◌, ◌++◌, map, codes}
use Rattle.std.specs.Fmt.{decimal}
use Rattle.realisations.specs.Codes.{Code}
use Rattle.realisations.specs.IndexKinds.{IndexKind, by_composition, by_permutation, by_packed_word, by_tableau, by_tree}
use Rattle.realisations.specs.Tableaux.{rows_of}
use Rattle.realisations.specs.Trees.{Tree, empty, node, tree_of}

-- texts with commas between
abbrev pub comma_separated : List (List ℕ) → List ℕ
comma_separated [] = []
comma_separated (a ∷ []) = a
comma_separated (a ∷ b ∷ rest) = a ++ codes "," ++ comma_separated (b ∷ rest)

-- a list of numbers: these in decimal, in brackets
abbrev pub list_text : List ℕ → List ℕ
list_text ns = codes "[" ++ comma_separated (map decimal ns) ++ codes "]"

-- rows: their lists, in brackets
abbrev pub rows_text : List (List ℕ) → List ℕ
rows_text rows = codes "[" ++ comma_separated (map list_text rows) ++ codes "]"

-- a tree: nothing, or the pair of the left and the right subtree, in brackets
abbrev pub tree_text : Tree → List ℕ
tree_text empty = codes "[]"
tree_text (node l r) = codes "[" ++ tree_text l ++ codes "," ++ tree_text r ++ codes "]"

-- the spelling of an index of a kind, by its code
abbrev pub index_spelling : IndexKind → Code → List ℕ
index_spelling by_composition code = list_text code
index_spelling by_permutation code = list_text code
index_spelling by_packed_word code = list_text code
index_spelling by_tableau code = rows_text (rows_of code)
index_spelling by_tree code = tree_text (tree_of code)
