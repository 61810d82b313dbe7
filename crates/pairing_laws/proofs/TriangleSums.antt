-- Sums over sizes, and over pairs of sizes.
use Rattle.std.proofs.Common.{◌≡◌, ◌≢◌, ℕ, zero, suc, ◌+◌, ◌<◌, ◌≤◌, List, refl, sym, ◌∙◌, ap, arith, inl, inr}
use Rattle.std.proofs.lemmas.Bool.{cases_lt}
use Rattle.std.proofs.Math.IntN.{ℤ, pos, ◌+ℤ◌}
use Rattle.std.proofs.lemmas.Int.{ints}
use Rattle.realisations.specs.Pairings.{up_to}
use Rattle.antipode_laws.proofs.IntegerSums.{sum_over, sum_over-append, sum_over-add, sum_over_same}
use Rattle.antipode_laws.proofs.ExponentCuts.{over_numbers, over_numbers-suc}

-- the sum over the numbers from 0 to n
abbrev pub sum_to : ℕ → (ℕ → ℤ) → ℤ
sum_to zero h = h 0
sum_to (suc n) h = sum_to n h +ℤ h (suc n)

pub sum_to-up_to : (h : List ℕ → ℤ) (family : ℕ → List (List ℕ)) (n : ℕ) → sum_over h (up_to family n) ≡ sum_to n (λ k. sum_over h (family k))
sum_to-up_to h family zero = refl
sum_to-up_to h family (suc n) = sum_over-append h (up_to family n) (family (suc n)) ∙ ap (λ z. z +ℤ sum_over h (family (suc n))) (sum_to-up_to h family n)

pub sum_to_same : (n : ℕ) (h g : ℕ → ℤ) → ((k : ℕ) → h k ≡ g k) → sum_to n h ≡ sum_to n g
sum_to_same zero h g e = e 0
sum_to_same (suc n) h g e = omega (arith, ints, sum_to_same n h g e, e (suc n))

-- of which none counts
pub sum_to_none : (n : ℕ) (h : ℕ → ℤ) → ((k : ℕ) → k ≤ n → h k ≡ pos 0) → sum_to n h ≡ pos 0
sum_to_none zero h none = none 0 (omega arith)
sum_to_none (suc n) h none = omega (arith, ints, sum_to_none n h (λ k le. none k (omega (arith, le))), none (suc n) (omega arith))

-- of which at most one counts
pub sum_to_only : (n m : ℕ) (h : ℕ → ℤ) → m ≤ n → ((k : ℕ) → k ≢ m → h k ≡ pos 0) → sum_to n h ≡ h m
sum_to_only zero m h le none = let same : 0 ≡ m = omega (arith, le) in ap h same
sum_to_only (suc n) m h le none = elim (cases_lt n m) [
  | inl last ↦
      let same : suc n ≡ m = omega (arith, le, last) in
      omega (arith, ints, sum_to_none n h (λ k low. none k (omega (arith, low, last))), ap h same)
  | inr earlier ↦
      omega (arith, ints, sum_to_only n m h earlier none, none (suc n) (omega (arith, earlier)))
]

sum_to-add : (n : ℕ) (h g : ℕ → ℤ) → sum_to n (λ k. h k +ℤ g k) ≡ sum_to n h +ℤ sum_to n g
sum_to-add zero h g = refl
sum_to-add (suc n) h g = omega (arith, ints, sum_to-add n h g)

sum_to_first : (n : ℕ) (h : ℕ → ℤ) → sum_to (suc n) h ≡ h 0 +ℤ sum_to n (λ k. h (suc k))
sum_to_first zero h = refl
sum_to_first (suc n) h = omega (arith, ints, sum_to_first n h)

-- over the pairs of numbers that add to at most n, for a function that is 0 at pairs that add to more
pub triangle : (n : ℕ) (f : ℕ → ℕ → ℤ) → ((i j : ℕ) → n < i + j → f i j ≡ pos 0) →
    sum_to n (λ m. over_numbers m f) ≡ sum_to n (λ i. sum_to n (λ j. f i j))
triangle zero f none = omega (arith, ints)
triangle (suc n) f none =
    let shifted : ℕ → ℕ → ℤ = λ i j. f (suc i) j in
    let left : sum_to (suc n) (λ m. over_numbers m f) ≡ over_numbers 0 f +ℤ sum_to n (λ m. over_numbers (suc m) f) = sum_to_first n (λ m. over_numbers m f) in
    let steps : sum_to n (λ m. over_numbers (suc m) f) ≡ sum_to n (λ m. f 0 (suc m)) +ℤ sum_to n (λ m. over_numbers m shifted) =
    sum_to_same n _ _ (λ m. over_numbers-suc m f) ∙ sum_to-add n (λ m. f 0 (suc m)) (λ m. over_numbers m shifted) in
    let ih = triangle n shifted (λ i j h. none (suc i) j (omega arith)) in
    let rest : sum_to n (λ i. sum_to (suc n) (λ j. f (suc i) j)) ≡ sum_to n (λ i. sum_to n (λ j. f (suc i) j)) =
    sum_to_same n _ _ (λ i. omega (arith, ints, none (suc i) (suc n) (omega arith))) in
    omega (arith, ints, left, steps, ih, rest, sum_to_first n (λ i. sum_to (suc n) (λ j. f i j)), sum_to_first n (λ j. f 0 j))

-- a sum over sizes of sums over a list
sum_over-sum_to : {X : Type 0} (n : ℕ) (h : X → ℕ → ℤ) (xs : List X) → sum_over (λ x. sum_to n (h x)) xs ≡ sum_to n (λ k. sum_over (λ x. h x k) xs)
sum_over-sum_to zero h xs = refl
sum_over-sum_to (suc n) h xs = sum_over-add (λ x. sum_to n (h x)) (λ x. h x (suc n)) xs ∙ ap (λ z. z +ℤ sum_over (λ x. h x (suc n)) xs) (sum_over-sum_to n h xs)

-- over the pairs of elements of a family whose sizes add to at most n, for a function that is 0 at larger pairs
pub pairs_of_sizes : (n : ℕ) (family : ℕ → List (List ℕ)) (f : List ℕ → List ℕ → ℤ) →
    ((i j : ℕ) → n < i + j → sum_over (λ s. sum_over (f s) (family j)) (family i) ≡ pos 0) →
    sum_to n (λ m. over_numbers m (λ i j. sum_over (λ s. sum_over (f s) (family j)) (family i)))
    ≡ sum_over (λ s. sum_over (f s) (up_to family n)) (up_to family n)
pairs_of_sizes n family f none =
    triangle n (λ i j. sum_over (λ s. sum_over (f s) (family j)) (family i)) none
    ∙ sum_to_same n _ _ (λ i.
    sym (sum_over-sum_to n (λ s j. sum_over (f s) (family j)) (family i))
    ∙ sum_over_same _ _ (λ s. sym (sum_to-up_to (f s) family n)) (family i))
    ∙ sym (sum_to-up_to (λ s. sum_over (f s) (up_to family n)) family n)
