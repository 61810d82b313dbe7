-- Nothing here need be believed: how the permutations of a class grow, for the contracts of private functions.
use Rattle.std.specs.Prelude.{ℕ, suc, ◌≤◌, Bool, IsTrue, List, [], ◌∷◌, length}
use Rattle.std.specs.List.{filter}
use Rattle.realisations.specs.Codes.{Code}
use Rattle.realisations.specs.IndexKinds.{is_permutation}
use Rattle.realisations.specs.Lists.{same_list}
use Rattle.realisations.specs.Tableaux.{insertion_tableau, tableau_code}
use Rattle.realisations.specs.Words.{shuffles}

-- a permutation of at most 11 numbers
pub record IsShorterPermutation (s : List ℕ) : Type 0 where
  pub permutation : IsTrue (is_permutation s)
  pub small : length s ≤ 11

-- whether the insertion tableau of a word has this code
abbrev pub has_class : Code → List ℕ → Bool
has_class class s = same_list (tableau_code (insertion_tableau s)) class

-- a permutation with the next number put in at each place, where the insertion tableau has this code
abbrev pub longer_words : Code → List ℕ → List (List ℕ)
longer_words class s = filter (λ w. has_class class w) (shuffles (suc (length s) ∷ []) s)
