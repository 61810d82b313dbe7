-- Words cut by the values of their letters: the letters up to k, and those past k.
use Rattle.std.specs.Prelude.{ℕ, suc, ◌-◌, List, map, nat_lt, nat_le}
use Rattle.std.specs.List.{filter, range_with_len}
use Rattle.realisations.specs.Words.{greatest}

-- the letters up to k
abbrev pub letters_up_to : ℕ → List ℕ → List ℕ
letters_up_to k w = filter (λ x. nat_le x k) w

-- the letters past k
abbrev pub letters_past : ℕ → List ℕ → List ℕ
letters_past k w = filter (λ x. nat_lt k x) w

-- each letter lowered by k
abbrev pub lower : ℕ → List ℕ → List ℕ
lower k w = map (λ x. x - k) w

-- for each k from 0 to the greatest letter, the letters up to k, and those past k lowered by k: of a packed word both are packed, and of a permutation both are permutations
abbrev pub value_cuts : List ℕ → List (List ℕ × List ℕ)
value_cuts w = map (λ k. (letters_up_to k w, lower k (letters_past k w))) (range_with_len 0 (suc (greatest w)))
