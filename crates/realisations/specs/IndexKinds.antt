-- What basis elements are indexed by: five kinds of indices, by their codes.
use Rattle.std.specs.Prelude.{◌≡◌, ℕ, ◌<◌, Bool, ◌&&◌, IsTrue, List, [], ◌∷◌, length, nat_eq, nat_le}
use Rattle.std.specs.List.{concat, list_all, range_with_len, sum}
use Rattle.realisations.specs.Codes.{Code}
use Rattle.realisations.specs.Lists.{is_among}
use Rattle.realisations.specs.Words.{greatest}
use Rattle.realisations.specs.Standardisation.{count_same}
use Rattle.realisations.specs.Trees.{Tree, tree_code}
use Rattle.realisations.specs.Tableaux.{tableau_code, is_increasing}

-- a composition: a list of positive parts
abbrev pub IsComposition : List ℕ → Type 0
IsComposition [] = Unit {0}
IsComposition (a ∷ parts) = (0 < a) × IsComposition parts

-- a permutation, by its values in order: each number from 1 to its length stands in it once
abbrev pub is_permutation : List ℕ → Bool
is_permutation s = list_all (λ i. nat_eq (count_same i s) 1) (range_with_len 1 (length s))

-- a packed word: its letters are the numbers from 1 to some number
abbrev pub is_packed : List ℕ → Bool
is_packed w = list_all (λ x. nat_le 1 x) w && list_all (λ x. is_among x w) (range_with_len 1 (greatest w))

-- a standard tableau, by its rows: each number from 1 to its size stands in it once, and rows and columns rise
abbrev pub is_standard_tableau : List (List ℕ) → Bool
is_standard_tableau rows = is_permutation (concat rows) && is_increasing rows

-- the code of a standard tableau
abbrev pub IsTableauCode : Code → Type 0
IsTableauCode code = (rows : List (List ℕ)) × (IsTrue (is_standard_tableau rows)) × (tableau_code rows ≡ code)

-- the code of a binary tree
abbrev pub IsTreeCode : Code → Type 0
IsTreeCode code = (tree : Tree) × (tree_code tree ≡ code)

-- what the elements of a basis are indexed by: compositions, permutations, packed words, standard tableaux, or binary trees
pub data IndexKind : Type 0 where
  by_composition by_permutation by_packed_word by_tableau by_tree : IndexKind

-- the code is that of an index of the kind
abbrev pub IsOfKind : IndexKind → Code → Type 0
IsOfKind by_composition code = IsComposition code
IsOfKind by_permutation code = IsTrue (is_permutation code)
IsOfKind by_packed_word code = IsTrue (is_packed code)
IsOfKind by_tableau code = IsTableauCode code
IsOfKind by_tree code = IsTreeCode code

-- the degree of an index of a kind: the sum of the parts of a composition, and else the length of its code
abbrev pub degree_by : IndexKind → Code → ℕ
degree_by by_composition code = sum code
degree_by by_permutation code = length code
degree_by by_packed_word code = length code
degree_by by_tableau code = length code
degree_by by_tree code = length code
