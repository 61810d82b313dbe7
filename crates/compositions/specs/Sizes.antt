-- Compositions of a size that the crates of objects take.
use Rattle.std.specs.Prelude.{ℕ, ◌≤◌, List}
use Rattle.std.specs.List.{sum}
use Rattle.realisations.specs.IndexKinds.{IsComposition}

-- a composition of a number of at most 12
pub record IsSmallComposition (parts : List ℕ) : Type 0 where
  pub positive : IsComposition parts
  pub small : sum parts ≤ 12
