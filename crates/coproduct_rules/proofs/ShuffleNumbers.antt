-- How many shuffles two words have, and how many all pairs of words of n letters.
use Rattle.std.proofs.Common.{◌≡◌, ℕ, zero, suc, ◌+◌, ◌-◌, ◌^◌, ◌<◌, ◌≤◌, List, [], ◌∷◌, map, length, refl, ap, arith}
use Rattle.std.specs.List.{flat_map, range_with_len}
use Rattle.std.proofs.Math.Nat.{pow-suc}
use Rattle.std.proofs.lemmas.List.{length-append, length-map}
use Rattle.realisations.specs.Exponents.{number_cuts}
use Rattle.realisations.specs.Words.{shuffles}
use Rattle.realisations.proofs.Sums.{sums, sums-add, sums_same, over_cuts, over_cuts-suc}
use Rattle.coproduct_rules.proofs.Ranges.{sums_range_shift}

-- the number of shuffles of words of d and of e letters, a binomial coefficient
abbrev pub ways : ℕ → ℕ → ℕ
ways zero e = 1
ways (suc d) zero = 1
ways (suc d) (suc e) = ways d (suc e) + ways (suc d) e

pub length-shuffles : (u v : List ℕ) → length (shuffles u v) ≡ ways (length u) (length v)
length-shuffles [] v = refl
length-shuffles (x ∷ u) [] = refl
length-shuffles (x ∷ u) (y ∷ v) =
    omega (
      arith,
      length-append (map (λ w. x ∷ w) (shuffles u (y ∷ v))) (map (λ w. y ∷ w) (shuffles (x ∷ u) v)),
      length-map (shuffles u (y ∷ v)) (λ w. x ∷ w),
      length-map (shuffles (x ∷ u) v) (λ w. y ∷ w),
      length-shuffles u (y ∷ v),
      length-shuffles (x ∷ u) v,
    )

-- a function at the next cut, where there is one
abbrev next_cut : (ℕ → ℕ → ℕ) → ℕ → ℕ → ℕ
next_cut h d zero = 0
next_cut h d (suc e) = h (suc d) e

next_later : (h : ℕ → ℕ → ℕ) (d e : ℕ) → next_cut h (suc d) e ≡ next_cut (λ i j. h (suc i) j) d e
next_later h d zero = refl
next_later h d (suc e) = refl

-- the cuts after the first are the next ones
over_next : (n : ℕ) (h : ℕ → ℕ → ℕ) → over_cuts n (λ d e. next_cut h d e) + h 0 n ≡ over_cuts n h
over_next zero h = omega arith
over_next (suc n) h =
    omega (
      arith,
      over_cuts-suc n (λ d e. next_cut h d e),
      sums_same (λ (c : ℕ × ℕ). next_cut h (suc c.0) c.1) (λ c. next_cut (λ i j. h (suc i) j) c.0 c.1) (λ c. next_later h c.0 c.1) (number_cuts n),
      over_next n (λ i j. h (suc i) j),
      over_cuts-suc n h,
    )

-- one letter more in the first word
one_more : (d e : ℕ) → ways (suc d) e ≡ ways d e + next_cut ways d e
one_more zero zero = refl
one_more (suc d) zero = refl
one_more d (suc e) = refl

-- over all cuts of n there are 2^n shuffles
pub over_ways : (n : ℕ) → over_cuts n ways ≡ 2 ^ n
over_ways zero = refl
over_ways (suc n) =
    omega (
      arith,
      over_cuts-suc n ways,
      sums_same (λ (c : ℕ × ℕ). ways (suc c.0) c.1) (λ c. ways c.0 c.1 + next_cut ways c.0 c.1) (λ c. one_more c.0 c.1) (number_cuts n),
      sums-add (λ (c : ℕ × ℕ). ways c.0 c.1) (λ c. next_cut ways c.0 c.1) (number_cuts n),
      over_next n ways,
      over_ways n,
      pow-suc 2 n,
    )

-- a sum over the cuts of n is one over the numbers up to n
pub over_range : (n : ℕ) (f : ℕ → ℕ → ℕ) → sums (λ d. f d (n - d)) (range_with_len 0 (suc n)) ≡ over_cuts n f
over_range zero f = refl
over_range (suc n) f =
    let first : suc n - 0 ≡ suc n = omega arith in
    omega (
      arith,
      ap (f 0) first,
      sums_range_shift (λ d. f d (suc n - d)) 0 (suc n),
      sums_same (λ d. f (suc d) (suc n - suc d)) (λ d. f (suc d) (n - d)) (λ d. ap (f (suc d)) (less d)) (range_with_len 0 (suc n)),
      over_range n (λ i j. f (suc i) j),
      over_cuts-suc n f,
    )
  where
    less : (d : ℕ) → suc n - suc d ≡ n - d
    less d = omega arith

-- a list of lists in a row is as long as these together
pub length-flat_map : {X Y : Type 0} (f : X → List Y) (xs : List X) → length (flat_map f xs) ≡ sums (λ x. length (f x)) xs
length-flat_map f [] = refl
length-flat_map f (x ∷ xs) = omega (arith, length-append (f x) (flat_map f xs), length-flat_map f xs)

-- sums over a range, number by number
pub sums_range_le : (f g : ℕ → ℕ) (a n : ℕ) → ((k : ℕ) → a ≤ k → k < a + n → f k ≤ g k) → sums f (range_with_len a n) ≤ sums g (range_with_len a n)
sums_range_le f g a zero h = omega arith
sums_range_le f g a (suc n) h = omega (arith, h a (omega arith) (omega arith), sums_range_le f g (a + 1) n (λ k from to. h k (omega arith) (omega arith)))
