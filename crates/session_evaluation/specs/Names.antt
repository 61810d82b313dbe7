-- The names of a session and their values.
use Rattle.std.specs.Prelude.{ℕ, ◌||◌, Bool, List, [], ◌∷◌, All, Option, Some, None, if◌then◌else◌, length, nat_lt, is_some}
use Rattle.std.specs.Str.{bytes_eq}
use Rattle.hopf_laws.specs.Values.{Expansion, IsValue}

-- names and their values, in the order of the first assignments
abbrev pub Names : Type 0
Names = List (List ℕ × Expansion)

-- the value of a name
abbrev pub value_of : Names → List ℕ → Option Expansion
value_of [] name = None
value_of (entry ∷ names) name = if bytes_eq name entry.0 then Some entry.1 else value_of names name

-- the names once a name has a value: a known one keeps its place, and a new one comes last
abbrev pub with_value : Names → List ℕ → Expansion → Names
with_value [] name v = (name, v) ∷ []
with_value (entry ∷ names) name v = if bytes_eq name entry.0 then (entry.0, v) ∷ names else entry ∷ with_value names name v

-- a session has up to 256 names: a known name can have another value, and a new one is one more
abbrev pub has_room_for : Names → List ℕ → Bool
has_room_for names name = is_some (value_of names name) || nat_lt (length names) 256

-- what the names stand for are values
abbrev pub AreValues : Names → Type 0
AreValues names = All (λ (entry : List ℕ × Expansion). IsValue entry.1) names
