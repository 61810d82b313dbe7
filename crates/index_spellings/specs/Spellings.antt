-- The lexemes by which an index is spelled.
use Rattle.std.specs.Prelude.{ℕ, List, [], ◌∷◌, ◌++◌}
use Rattle.realisations.specs.Codes.{Code}
use Rattle.realisations.specs.IndexKinds.{IndexKind, by_composition, by_permutation, by_packed_word, by_tableau, by_tree}
use Rattle.realisations.specs.Tableaux.{rows_of}
use Rattle.realisations.specs.Trees.{Tree, empty, node, tree_of}
use Rattle.session_tokens.specs.declared.lexeme.Lexeme.{Lexeme}
use Rattle.session_tokens.specs.declared.lexeme.Lexeme.TheVariants as lex

-- a list with these items
abbrev pub list_with : List Lexeme → List Lexeme
list_with items = lex.LeftBracket ∷ items ++ lex.RightBracket ∷ []

-- numbers, with commas between
abbrev pub number_items : List ℕ → List Lexeme
number_items [] = []
number_items (n ∷ []) = lex.Number n ∷ []
number_items (n ∷ m ∷ ns) = lex.Number n ∷ lex.Comma ∷ number_items (m ∷ ns)

-- the lists of rows, with commas between
abbrev pub row_items : List (List ℕ) → List Lexeme
row_items [] = []
row_items (row ∷ []) = list_with (number_items row)
row_items (row ∷ next ∷ rows) = list_with (number_items row) ++ lex.Comma ∷ row_items (next ∷ rows)

-- the pair of the left and the right subtree, and nothing for the empty tree
abbrev pub tree_items : Tree → List Lexeme
tree_items empty = []
tree_items (node l r) = list_with (tree_items l) ++ lex.Comma ∷ list_with (tree_items r)

-- the items of the list that spells an index of a kind, by its code
abbrev pub items_by : IndexKind → Code → List Lexeme
items_by by_composition code = number_items code
items_by by_permutation code = number_items code
items_by by_packed_word code = number_items code
items_by by_tableau code = row_items (rows_of code)
items_by by_tree code = tree_items (tree_of code)
