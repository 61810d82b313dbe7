-- Nothing here need be believed: it serves proofs. Codes of decreasing trees, letter by letter.
use Rattle.std.specs.Prelude.{ℕ, suc, if◌then◌else◌, List, [], ◌∷◌, nat_lt}

-- how many letters right at the front of a word are smaller than x, up to the first that is not
abbrev pub smaller_next : ℕ → List ℕ → ℕ
smaller_next x [] = 0
smaller_next x (y ∷ w) = if nat_lt y x then suc (smaller_next x w) else 0

-- for each letter, 1 plus the number of smaller letters right after it
abbrev pub decreasing_code : List ℕ → List ℕ
decreasing_code [] = []
decreasing_code (x ∷ w) = suc (smaller_next x w) ∷ decreasing_code w
