-- Codes of trees of a size that the crates of objects take.
use Rattle.std.specs.Prelude.{◌≡◌, ℕ, ◌≤◌, length}
use Rattle.realisations.specs.Codes.{Code}
use Rattle.realisations.specs.IndexKinds.{IsTreeCode}

-- the code of a tree of at most 12 nodes
pub record IsSmallTreeCode (code : Code) : Type 0 where
  pub tree : IsTreeCode code
  pub small : length code ≤ 12

-- the code of a tree of n nodes
abbrev pub IsTreeCodeOf : ℕ → Code → Type 0
IsTreeCodeOf n code = IsTreeCode code × (length code ≡ n)
