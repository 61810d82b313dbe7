-- How indices are written.
use Rattle.std.specs.Prelude.{ℕ, List}

-- the code of an index: a list of numbers, its letters
abbrev pub Code : Type 0
Code = List ℕ

-- a key: a code for each component
abbrev pub Key : Type 0
Key = List Code
