-- The cuts of the permutations with one insertion tableau into two reading words (Poirier, Reutenauer 1995).
use Rattle.std.specs.Prelude.{◌≡◌, ℕ, ◌+◌, ◌*◌, Bool, ◌&&◌, IsTrue, if◌then◌else◌, List, [], ◌∷◌, length, take, drop}
use Rattle.std.specs.List.{AllByRecursion, flat_map}
use Rattle.realisations.specs.Codes.{Code}
use Rattle.realisations.specs.IndexKinds.{is_permutation}
use Rattle.realisations.specs.Lists.{one_if, same_list}
use Rattle.realisations.specs.Standardisation.{standardise}
use Rattle.realisations.specs.Tableaux.{insertion_tableau, reading_word, tableau_code}
use Rattle.coproduct_rules.specs.PlaceCuts.{place_cuts}
use Rattle.word_laws.specs.AddedCodes.{times_in}

-- a permutation of the class of a tableau, given by its code: it has this insertion tableau
pub record IsOfClass (t s : Code) : Type 0 where
  pub permutation : IsTrue (is_permutation s)
  pub tableau : tableau_code (insertion_tableau s) ≡ t

-- the permutations of the class, each once, in any order
pub record ListsClass (t : Code) (words : List Code) : Type 0 where
  pub each : AllByRecursion (λ s. IsOfClass t s) words
  pub once : (s : Code) → IsOfClass t s → times_in s words ≡ 1

-- whether a permutation is the reading word of its insertion tableau
abbrev pub is_reading_word : List ℕ → Bool
is_reading_word s = same_list s (reading_word (insertion_tableau s))

-- the codes of the insertion tableaux of two permutations, where both are reading words, and else nothing
abbrev pub reading_pair : Code × Code → List (Code × Code)
reading_pair e =
    if is_reading_word e.0 && is_reading_word e.1 then (tableau_code (insertion_tableau e.0), tableau_code (insertion_tableau e.1)) ∷ [] else []

-- these for each cut of each permutation, its two words standardised: each pair of tableaux as often as one of the permutations is uv, with Std(u) the reading word of the first and Std(v) that of the second
abbrev pub class_cuts : List Code → List (Code × Code)
class_cuts words = flat_map (λ s. flat_map reading_pair (place_cuts s)) words

-- how often a pair is listed
abbrev pub times_of_pair : Code → Code → List (Code × Code) → ℕ
times_of_pair a b [] = 0
times_of_pair a b (e ∷ pairs) = one_if (same_list a e.0) * one_if (same_list b e.1) + times_of_pair a b pairs

-- whether the first letters of a word have the standardisation u, and the others the standardisation v
abbrev pub is_cut_into : List ℕ → List ℕ → List ℕ → Bool
is_cut_into u v s = same_list (standardise (take (length u) s)) u && same_list (standardise (drop (length u) s)) v
