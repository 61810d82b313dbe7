-- Nothing here need be believed: rows that are kept as codes, and their tests one by one.
use Rattle.std.specs.Prelude.{ℕ, ◌≤◌, Bool, true, false, ◌&&◌, nat_lt, List, [], ◌∷◌, length}
use Rattle.std.specs.List.{AllByRecursion}
use Rattle.realisations.specs.Tableaux.{rises}
use Rattle.linear_combos.specs.Codes.{IsCode}

-- at most 12 rows, each of them a code
pub record AreKept (rows : List (List ℕ)) : Type 0 where
  pub few : length rows ≤ 12
  pub are_codes : AllByRecursion IsCode rows

-- a row with a number, which rises
abbrev pub is_rising : List ℕ → Bool
is_rising [] = false
is_rising (x ∷ row) = rises (x ∷ row)

-- each number of the second row has a smaller one above it
abbrev pub columns_rise : List ℕ → List ℕ → Bool
columns_rise above [] = true
columns_rise [] (y ∷ below) = false
columns_rise (x ∷ above) (y ∷ below) = nat_lt x y && columns_rise above below
