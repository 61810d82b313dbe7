-- Codes of standard tableaux of a size that the crates of objects take.
use Rattle.std.specs.Prelude.{◌≤◌, length}
use Rattle.realisations.specs.Codes.{Code}
use Rattle.realisations.specs.IndexKinds.{IsTableauCode}

-- the code of a standard tableau of at most 12 letters
pub record IsSmallTableauCode (code : Code) : Type 0 where
  pub tableau : IsTableauCode code
  pub small : length code ≤ 12
