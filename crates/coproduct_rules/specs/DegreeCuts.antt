-- Compositions cut by degree.
use Rattle.std.specs.Prelude.{ℕ, suc, ◌-◌, if◌then◌else◌, List, [], ◌∷◌, map, nat_eq, nat_le}
use Rattle.std.specs.List.{range_with_len, sum}

-- the composition of k that a composition begins with: its first parts, the last of them cut off at degree k
abbrev pub front_of_degree : ℕ → List ℕ → List ℕ
front_of_degree k [] = []
front_of_degree k (i ∷ parts) = if nat_le i k then i ∷ front_of_degree (k - i) parts else (if nat_eq k 0 then [] else k ∷ [])

-- the composition of what is left past degree k
abbrev pub rest_past_degree : ℕ → List ℕ → List ℕ
rest_past_degree k [] = []
rest_past_degree k (i ∷ parts) = if nat_le i k then rest_past_degree (k - i) parts else (i - k) ∷ parts

-- for each k from 0 to the degree of a composition, the one pair of a composition J of k and one K of the rest such that the composition is J followed by K, or J and K with the last part of J and the first of K joined (Gessel 1984)
abbrev pub degree_cuts : List ℕ → List (List ℕ × List ℕ)
degree_cuts parts = map (λ k. (front_of_degree k parts, rest_past_degree k parts)) (range_with_len 0 (suc (sum parts)))
