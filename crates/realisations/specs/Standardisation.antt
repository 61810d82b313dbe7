-- Standardisation and packing of words, and the inverse of a permutation.
use Rattle.std.specs.Prelude.{ℕ, suc, ◌+◌, ◌&&◌, not, if◌then◌else◌, List, [], ◌∷◌, map, length, nat_eq, nat_lt, nat_le}
use Rattle.std.specs.List.{range_with_len}
use Rattle.realisations.specs.Lists.{is_among, one_if, count}

-- how many letters are smaller than x
abbrev pub count_below : ℕ → List ℕ → ℕ
count_below x w = count (λ y. nat_lt y x) w

-- how many letters are equal to x
abbrev pub count_same : ℕ → List ℕ → ℕ
count_same x w = count (λ y. nat_eq y x) w

-- the standardisation of what follows some letters, all in one word
abbrev pub standardise_after : List ℕ → List ℕ → List ℕ
standardise_after before [] = []
standardise_after before (x ∷ w) =
    suc (count_below x before + count_same x before + count_below x w) ∷ standardise_after (x ∷ before) w

-- the standardisation of a word (Schensted 1961): each letter becomes the number of smaller letters, and of equal ones up to its own place
abbrev pub standardise : List ℕ → List ℕ
standardise w = standardise_after [] w

-- the rank of x among the distinct letters of a word: how many of them are at most x, each counted where it stands last
abbrev pub rank_in : List ℕ → ℕ → ℕ
rank_in [] x = 0
rank_in (y ∷ w) x = one_if (nat_le y x && not (is_among y w)) + rank_in w x

-- the packing of a word (Novelli, Thibon 2006): each letter becomes its rank among the distinct letters
abbrev pub pack : List ℕ → List ℕ
pack w = map (λ x. rank_in w x) w

-- the place of x, counted from 1
abbrev pub place_of : ℕ → List ℕ → ℕ
place_of x [] = 0
place_of x (y ∷ w) = if nat_eq y x then 1 else suc (place_of x w)

-- the inverse of a permutation: the places of 1, 2, .. in order
abbrev pub inverse : List ℕ → List ℕ
inverse s = map (λ i. place_of i s) (range_with_len 1 (length s))
