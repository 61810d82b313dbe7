-- Descents of words, descent compositions, and the refinement order (Gessel 1984; Gelfand, Krob, Lascoux, Leclerc, Retakh, Thibon 1995). Places count from 1.
use Rattle.std.specs.Prelude.{ℕ, suc, ◌+◌, ◌-◌, Bool, ◌&&◌, not, if◌then◌else◌, List, [], ◌∷◌, ◌++◌, length, nat_eq, nat_lt, replicate}
use Rattle.std.specs.List.{filter, range_with_len, sum}
use Rattle.realisations.specs.Lists.{is_among, is_subset}

-- the places, counted from k, whose letter and the next one pass a test
abbrev pub places_where : (ℕ → ℕ → Bool) → ℕ → List ℕ → List ℕ
places_where test k [] = []
places_where test k (x ∷ []) = []
places_where test k (x ∷ y ∷ w) =
    if test x y then k ∷ places_where test (suc k) (y ∷ w) else places_where test (suc k) (y ∷ w)

-- Des(w): the places whose letter is greater than the next one
abbrev pub descents : List ℕ → List ℕ
descents w = places_where (λ x y. nat_lt y x) 1 w

-- the places whose letter is smaller than the next one
abbrev pub ascents : List ℕ → List ℕ
ascents w = places_where (λ x y. nat_lt x y) 1 w

-- a composition with 1 more: the first part is one larger, or the first part
abbrev pub longer_first : List ℕ → List ℕ
longer_first [] = 1 ∷ []
longer_first (i ∷ parts) = suc i ∷ parts

-- C(w), the descent composition: the lengths of the longest factors without a descent, in order
abbrev pub descent_composition : List ℕ → List ℕ
descent_composition [] = []
descent_composition (x ∷ []) = 1 ∷ []
descent_composition (x ∷ y ∷ w) =
    if nat_lt y x then 1 ∷ descent_composition (y ∷ w) else longer_first (descent_composition (y ∷ w))

-- the partial sums of a composition after a sum s, without the whole sum
abbrev pub partial_sums : ℕ → List ℕ → List ℕ
partial_sums s [] = []
partial_sums s (i ∷ []) = []
partial_sums s (i ∷ j ∷ parts) = (s + i) ∷ partial_sums (s + i) (j ∷ parts)

-- Des(I): the proper partial sums of a composition
abbrev pub descent_set : List ℕ → List ℕ
descent_set parts = partial_sums 0 parts

-- the places of a composition of n, from 1 to n - 1, that are outside its descent set
abbrev pub places_outside : List ℕ → List ℕ
places_outside parts = filter (λ k. not (is_among k (descent_set parts))) (range_with_len 1 (sum parts - 1))

-- the first composition is finer than the second or equal to it: the sums are the same, and its descent set holds the other's
abbrev pub is_finer : List ℕ → List ℕ → Bool
is_finer fine coarse = nat_eq (sum fine) (sum coarse) && is_subset (descent_set coarse) (descent_set fine)

-- w_I, a word with descent composition I: of r parts, I_1 letters r, then I_2 letters r - 1, down to I_r letters 1
abbrev pub word_of_composition : List ℕ → List ℕ
word_of_composition [] = []
word_of_composition (i ∷ parts) = replicate i (suc (length parts)) ++ word_of_composition parts

-- the composition of the same sum whose descent set is what is outside that of a composition: a part i is 1 i times, but its last 1 joins the next part
abbrev pub complement : List ℕ → List ℕ
complement [] = []
complement (i ∷ []) = replicate i 1
complement (i ∷ j ∷ parts) = replicate (i - 1) 1 ++ longer_first (complement (j ∷ parts))
