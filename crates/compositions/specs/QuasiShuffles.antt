-- Nothing here need be believed: the quasi-shuffles of two compositions, which the code goes by. The public contract speaks of the product of readings alone.
use Rattle.std.specs.Prelude.{◌≡◌, ℕ, ℤ, ◌+◌, ◌-◌, ◌<◌, ◌≤◌, ◌+ℤ◌, ◌⊎◌, List, [], ◌∷◌, ◌++◌, map, length, take, drop, slice_index_or}
use Rattle.std.specs.List.{sum}
use Rattle.linear_combos.specs.Codes.{IsCode}
use Rattle.realisations.specs.Codes.{Code, Key}
use Rattle.realisations.specs.Combinations.{Combination, AreTerms, HasKey, norm_of, weighed}
use Rattle.realisations.specs.IndexKinds.{IsComposition}
use Rattle.realisations.specs.Lists.{int_sum}
use Rattle.realisations.specs.Readings.{Terms}

-- each as often as it arises: a first part of one of them, or the sum of both, before the quasi-shuffles of the rest (Hoffman 2000)
abbrev pub quasi_shuffles : List ℕ → List ℕ → List (List ℕ)
quasi_shuffles [] k = k ∷ []
quasi_shuffles (i ∷ j) [] = (i ∷ j) ∷ []
quasi_shuffles (i ∷ j) (m ∷ k) =
    (map (λ w. i ∷ w) (quasi_shuffles j (m ∷ k)) ++ map (λ w. m ∷ w) (quasi_shuffles (i ∷ j) k))
    ++ map (λ w. (i + m) ∷ w) (quasi_shuffles j k)

-- the key of one composition of n
abbrev pub IsKeyOf : ℕ → Key → Type 0
IsKeyOf n key = (c : List ℕ) × (key ≡ c ∷ []) × IsComposition c × (sum c ≡ n)

-- the terms are the quasi-shuffles of two compositions: whatever the keys weigh, they weigh as much as these; and each key is a composition of the whole size
pub record AreShuffles (j k : List ℕ) (ts : Terms) : Type 0 where
  pub weighs : (weight : Key → ℤ) → weighed weight ts ≡ int_sum (map (λ w. weight (w ∷ [])) (quasi_shuffles j k))
  pub keys : (key : Key) → HasKey ts key → IsKeyOf (sum j + sum k) key

-- the combination is the sum of the quasi-shuffles of two compositions
pub record IsProduct (j k : List ℕ) (c : Combination) : Type 0 where
  pub rank : c.rank ≡ 1
  pub whole : c.den ≡ 1
  pub terms : AreTerms 1 c.terms
  pub norm : norm_of c.terms ≤ length (quasi_shuffles j k)
  pub shuffles : AreShuffles j k c.terms

-- two compositions whose sizes add to at most 12
pub record AreFactors (j k : List ℕ) : Type 0 where
  pub first : IsComposition j
  pub second : IsComposition k
  pub small : sum j + sum k ≤ 12

-- the key at a place of a row of combinations
abbrev pub cell : List Combination → ℕ → Combination
cell row n = slice_index_or row n (record { rank = 0; den = 1; terms = [] })

-- a row of products: those of a composition with the last parts of another one, with none of them, one, and so on
pub record AreProducts (j k : List ℕ) (count : ℕ) (row : List Combination) : Type 0 where
  pub long : length row ≡ count
  pub each : (n : ℕ) → n < count → IsProduct j (drop (length k - n) k) (cell row n)

-- a key of one code, with a part in front of it
abbrev pub behind : ℕ → Key → Key
behind first [] = []
behind first (code ∷ key) = (first ∷ code) ∷ key

-- each key is a code, and makes a code with a part in front of it
abbrev pub CanStandBehind : ℕ → Terms → Type 0
CanStandBehind first ts = (key : Key) → HasKey ts key → (code : Code) × (key ≡ code ∷ []) × IsCode (first ∷ code)

-- the first terms of a list were added, up to a count, each behind a first part: whatever the keys weigh, the new terms weigh as much as the old ones and these; and each key was there before, or is one of these
pub record AddsBehind (first : ℕ) (ts : Terms) (count : ℕ) (old new : Combination) : Type 0 where
  pub rank : new.rank ≡ old.rank
  pub norm : norm_of new.terms ≤ norm_of old.terms + norm_of (take count ts)
  pub weighs : (weight : Key → ℤ) → weighed weight new.terms ≡ weighed weight old.terms +ℤ weighed (λ key. weight (behind first key)) (take count ts)
  pub keys : (key : Key) → HasKey new.terms key → HasKey old.terms key ⊎ ((rest : Key) × HasKey ts rest × (key ≡ behind first rest))

-- the same of all terms of two lists
pub record AddsBoth (first : ℕ) (ts : Terms) (second : ℕ) (us : Terms) (old new : Combination) : Type 0 where
  pub rank : new.rank ≡ old.rank
  pub norm : norm_of new.terms ≤ norm_of old.terms + norm_of ts + norm_of us
  pub weighs : (weight : Key → ℤ) → weighed weight new.terms ≡ weighed weight old.terms +ℤ weighed (λ key. weight (behind first key)) ts +ℤ weighed (λ key. weight (behind second key)) us
  pub keys : (key : Key) → HasKey new.terms key → HasKey old.terms key ⊎ ((rest : Key) × HasKey ts rest × (key ≡ behind first rest)) ⊎ ((rest : Key) × HasKey us rest × (key ≡ behind second rest))
