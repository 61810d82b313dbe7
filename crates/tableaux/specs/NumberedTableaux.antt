-- Nothing here need be believed: how a tableau is kept, by its letters in rising order and the numbers of their rows, and how codes of tableaux grow.
use Rattle.std.specs.Prelude.{ℕ, suc, ◌-◌, ◌≤◌, Bool, ◌&&◌, ◌||◌, nat_eq, nat_lt, List, [], ◌∷◌, ◌++◌, length, map}
use Rattle.std.specs.List.{filter, range_with_len}
use Rattle.realisations.specs.Codes.{Code}
use Rattle.realisations.specs.Standardisation.{count_same}
use Rattle.tableau_laws.specs.Intervals.{letters_between}
use Rattle.tableau_laws.specs.LatticeWords.{IsLatticeWord}
use Rattle.tableau_laws.specs.NumberedRows.{IsNumbered}

-- at most 12 letters in rising order, and the numbers of their rows
pub record IsKept (letters code : List ℕ) : Type 0 where
  pub numbered : IsNumbered letters code
  pub small : length code ≤ 12

-- whether a letter may come behind a lattice word
abbrev pub follows_in : Code → ℕ → Bool
follows_in code c = nat_eq c 1 || (nat_lt 1 c && nat_lt (count_same c code) (count_same (c - 1) code))

-- a lattice word of less than 12 letters
pub record IsShorter (code : Code) : Type 0 where
  pub lattice : IsLatticeWord code
  pub small : length code ≤ 11

-- the code with each letter that may come behind it
abbrev pub longer_codes : Code → List Code
longer_codes code = map (λ c. code ++ (c ∷ [])) (filter (λ c. follows_in code c) (range_with_len 1 (suc (length code))))

-- the letters from a to b, each less a - 1
abbrev pub lowered_between : ℕ → ℕ → List ℕ → List ℕ
lowered_between from to w = map (λ x. x - (from - 1)) (letters_between from to w)
