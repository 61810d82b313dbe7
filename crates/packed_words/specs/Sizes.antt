-- Packed words of a length that the crates of objects take.
use Rattle.std.specs.Prelude.{◌≡◌, ℕ, ◌≤◌, List, length, IsTrue}
use Rattle.realisations.specs.IndexKinds.{is_packed}

-- a packed word of at most 12 letters
pub record IsSmallPackedWord (u : List ℕ) : Type 0 where
  pub packed : IsTrue (is_packed u)
  pub small : length u ≤ 12

-- a packed word of n letters
abbrev pub IsPackedWordOf : ℕ → List ℕ → Type 0
IsPackedWordOf n u = IsTrue (is_packed u) × (length u ≡ n)
