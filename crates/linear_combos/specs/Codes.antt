-- Codes of indices.
use Rattle.std.specs.Prelude.{ℕ, ◌≤◌, Bool, ◌&&◌, nat_le, IsTrue, List, length}
use Rattle.std.specs.List.{list_all}

-- each letter is from 1 to 15
abbrev pub all_letters : List ℕ → Bool
all_letters xs = list_all (λ x. nat_le 1 x && nat_le x 15) xs

-- a code: at most 15 letters, each from 1 to 15
pub record IsCode (xs : List ℕ) : Type 0 where
  pub short : length xs ≤ 15
  pub letters : IsTrue (all_letters xs)
