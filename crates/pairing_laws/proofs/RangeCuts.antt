-- The cuts of the images of a range of numbers.
use Rattle.std.proofs.Common.{◌≡◌, ℕ, zero, suc, ◌+◌, List, [], ◌∷◌, map, refl, ap, arith}
use Rattle.std.proofs.Math.IntN.{ℤ}
use Rattle.std.specs.List.{range_with_len}
use Rattle.std.proofs.lemmas.Int.{ints}
use Rattle.realisations.specs.Words.{word_cuts}
use Rattle.antipode_laws.proofs.IntegerSums.{sum_over, sum_over-map}
use Rattle.antipode_laws.proofs.ExponentCuts.{over_numbers, over_numbers-suc, over_numbers_same}

-- they are the images of a first part of the range and of the rest
pub range_cuts : (g : List ℕ → List ℕ → ℤ) (f : ℕ → ℕ) (n a : ℕ) →
    sum_over (λ (c : List ℕ × List ℕ). g c.0 c.1) (word_cuts (map f (range_with_len a n)))
    ≡ over_numbers n (λ i j. g (map f (range_with_len a i)) (map f (range_with_len (a + i) j)))
range_cuts g f zero a = refl
range_cuts g f (suc n) a =
    let shift : sum_over (λ (c : List ℕ × List ℕ). g c.0 c.1) (map (λ (c : List ℕ × List ℕ). (f a ∷ c.0, c.1)) (word_cuts (map f (range_with_len (a + 1) n))))
    ≡ sum_over (λ (c : List ℕ × List ℕ). g (f a ∷ c.0) c.1) (word_cuts (map f (range_with_len (a + 1) n))) =
    sum_over-map (λ (c : List ℕ × List ℕ). g c.0 c.1) (λ (c : List ℕ × List ℕ). (f a ∷ c.0, c.1)) (word_cuts (map f (range_with_len (a + 1) n))) in
    let ih = range_cuts (λ u v. g (f a ∷ u) v) f n (a + 1) in
    let steps : over_numbers n (λ i j. g (f a ∷ map f (range_with_len (a + 1) i)) (map f (range_with_len (a + 1 + i) j)))
    ≡ over_numbers n (λ i j. g (map f (range_with_len a (suc i))) (map f (range_with_len (a + suc i) j))) =
    over_numbers_same n _ _ (λ i j e.
    let start : a + 1 + i ≡ a + suc i = omega arith in
    ap (λ b. g (f a ∷ map f (range_with_len (a + 1) i)) (map f (range_with_len b j))) start) in
    let none : a ≡ a + 0 = omega arith in
    omega (
      arith,
      ints,
      shift,
      ih,
      steps,
      over_numbers-suc n (λ i j. g (map f (range_with_len a i)) (map f (range_with_len (a + i) j))),
      ap (λ b. g [] (map f (range_with_len b (suc n)))) none,
    )
