-- Permutations of a size that the crates of objects take.
use Rattle.std.specs.Prelude.{◌≡◌, ℕ, ◌≤◌, List, length, IsTrue}
use Rattle.realisations.specs.IndexKinds.{is_permutation}

-- a permutation of at most 12 letters
pub record IsSmallPermutation (s : List ℕ) : Type 0 where
  pub permutation : IsTrue (is_permutation s)
  pub small : length s ≤ 12

-- a permutation of n letters
abbrev pub IsPermutationOf : ℕ → List ℕ → Type 0
IsPermutationOf n s = IsTrue (is_permutation s) × (length s ≡ n)
