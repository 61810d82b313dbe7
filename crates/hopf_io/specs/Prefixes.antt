-- Prefixes of lists of bytes.
use Rattle.std.specs.Prelude.{◌≡◌, ℕ, List, ◌++◌, Option}
use Rattle.std.specs.Io.KnownBytes.{Appends}

-- all begins with prefix
abbrev pub IsPrefix : List ℕ → List ℕ → Type 0
IsPrefix prefix all = (rest : List ℕ) × (all ≡ prefix ++ rest)

-- a prefix of the bytes was taken
abbrev pub AppendsPrefix : Option (List ℕ) → Option (List ℕ) → List ℕ → Type 0
AppendsPrefix old new bytes = (prefix : List ℕ) × Appends old new prefix × IsPrefix prefix bytes
