-- The commands.
use Rattle.std.specs.Prelude.{ℕ, List, [], ◌∷◌, Bool, false, codes}
use Rattle.std.specs.Str.{bytes_eq}

-- the words are `run` alone
abbrev pub is_command : List (List ℕ) → Bool
is_command [] = false
is_command (word ∷ []) = bytes_eq word (codes "run")
is_command (word ∷ next ∷ more) = false
