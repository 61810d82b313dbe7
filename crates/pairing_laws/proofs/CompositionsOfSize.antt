-- The compositions of a size.
use Rattle.std.proofs.Common.{◌≡◌, ℕ, zero, suc, List, [], ◌∷◌, refl, sym, ◌∙◌, ap, arith}
use Rattle.std.proofs.Math.IntN.{ℤ, pos, ◌+ℤ◌}
use Rattle.std.specs.List.{AllByRecursion, sum}
use Rattle.std.proofs.lemmas.Int.{ints}
use Rattle.realisations.specs.IndexKinds.{IsComposition}
use Rattle.realisations.specs.Pairings.{longer_compositions, compositions}
use Rattle.realisations.specs.Words.{word_cuts}
use Rattle.antipode_laws.proofs.IntegerSums.{sum_over, sum_over_same, sum_over-map, sum_over-flat_map, sum_over-add, sum_over-swap}
use Rattle.realisations.proofs.Every.{every-flat_map}
use Rattle.coproduct_rules.proofs.DegreeCuts.{sum-first}
use Rattle.antipode_laws.proofs.ExponentCuts.{over_numbers, over_numbers-suc, over_numbers_same}

-- a composition of n
pub record IsCompositionOf (n : ℕ) (parts : List ℕ) : Type 0 where
  pub composition : IsComposition parts
  pub size : sum parts ≡ n

longer_of_size : (n : ℕ) (parts : List ℕ) → IsCompositionOf n parts → AllByRecursion (IsCompositionOf (suc n)) (longer_compositions parts)
longer_of_size n [] is = (record { composition = (omega arith, tt); size = omega (arith, is.size, sum-first 1 []) }, tt)
longer_of_size n (i ∷ parts) is = (
  record { composition = (omega arith, is.composition); size = omega (arith, is.size, sum-first 1 (i ∷ parts)) },
  (record { composition = (omega arith, is.composition.1); size = omega (arith, is.size, sum-first i parts, sum-first (suc i) parts) }, tt),
)

-- each of the compositions of n is one
pub compositions_of_size : (n : ℕ) → AllByRecursion (IsCompositionOf n) (compositions n)
compositions_of_size zero = (record { composition = tt; size = refl }, tt)
compositions_of_size (suc n) =
    every-flat_map (IsCompositionOf n) (IsCompositionOf (suc n)) (λ parts. longer_compositions parts) (longer_of_size n) (compositions n) (compositions_of_size n)

-- the sum over the cuts of a composition
abbrev pub over_parts : (List ℕ → List ℕ → ℤ) → List ℕ → ℤ
over_parts f j = sum_over (λ (c : List ℕ × List ℕ). f c.0 c.1) (word_cuts j)

pub over_parts-cons : (f : List ℕ → List ℕ → ℤ) (i : ℕ) (j : List ℕ) → over_parts f (i ∷ j) ≡ f [] (i ∷ j) +ℤ over_parts (λ u v. f (i ∷ u) v) j
over_parts-cons f i j = ap (λ z. f [] (i ∷ j) +ℤ z) (sum_over-map (λ (c : List ℕ × List ℕ). f c.0 c.1) (λ (c : List ℕ × List ℕ). (i ∷ c.0, c.1)) (word_cuts j))

-- cutting the compositions with 1 more
longer_parts : (f : List ℕ → List ℕ → ℤ) (j : List ℕ) →
    sum_over (over_parts f) (longer_compositions j) ≡ sum_over (f []) (longer_compositions j) +ℤ over_parts (λ u v. sum_over (λ k. f k v) (longer_compositions u)) j
longer_parts f [] = omega (arith, ints)
longer_parts f (i ∷ j) =
    let g : List ℕ → List ℕ → ℤ = λ u v. sum_over (λ k. f k v) (longer_compositions u) in
    let both : over_parts (λ u v. g (i ∷ u) v) j ≡ over_parts (λ u v. f (1 ∷ i ∷ u) v) j +ℤ over_parts (λ u v. f (suc i ∷ u) v) j =
    sum_over_same _ _ (λ (c : List ℕ × List ℕ). two (f (1 ∷ i ∷ c.0) c.1) (f (suc i ∷ c.0) c.1)) (word_cuts j)
    ∙ sum_over-add (λ (c : List ℕ × List ℕ). f (1 ∷ i ∷ c.0) c.1) (λ (c : List ℕ × List ℕ). f (suc i ∷ c.0) c.1) (word_cuts j) in
    omega (arith, ints, over_parts-cons f 1 (i ∷ j), over_parts-cons (λ u v. f (1 ∷ u) v) i j, over_parts-cons f (suc i) j, over_parts-cons g i j, both)
  where
    two : (x y : ℤ) → x +ℤ (y +ℤ pos 0) ≡ x +ℤ y
    two x y = omega (arith, ints)

-- the cuts of all compositions of n are the pairs of compositions of numbers that add to n
pub cut_compositions : (n : ℕ) (f : List ℕ → List ℕ → ℤ) →
    sum_over (over_parts f) (compositions n) ≡ over_numbers n (λ i j. sum_over (λ u. sum_over (λ v. f u v) (compositions j)) (compositions i))
cut_compositions zero f = omega (arith, ints)
cut_compositions (suc n) f =
    let g : List ℕ → List ℕ → ℤ = λ u v. sum_over (λ k. f k v) (longer_compositions u) in
    let whole : sum_over (over_parts f) (compositions (suc n)) ≡ sum_over (f []) (compositions (suc n)) +ℤ sum_over (over_parts g) (compositions n) =
    sum_over-flat_map (over_parts f) (λ parts. longer_compositions parts) (compositions n)
    ∙ sum_over_same _ _ (longer_parts f) (compositions n)
    ∙ sum_over-add (λ j. sum_over (f []) (longer_compositions j)) (over_parts g) (compositions n)
    ∙ ap (λ z. z +ℤ sum_over (over_parts g) (compositions n)) (sym (sum_over-flat_map (f []) (λ parts. longer_compositions parts) (compositions n))) in
    let later : over_numbers n (λ i j. sum_over (λ u. sum_over (λ v. g u v) (compositions j)) (compositions i))
    ≡ over_numbers n (λ i j. sum_over (λ u. sum_over (λ v. f u v) (compositions j)) (compositions (suc i))) =
    over_numbers_same n _ _ (λ i j e.
    sum_over_same _ _ (λ u. swap u j) (compositions i)
    ∙ sym (sum_over-flat_map (λ u. sum_over (λ v. f u v) (compositions j)) (λ parts. longer_compositions parts) (compositions i))) in
    omega (
      arith,
      ints,
      whole,
      cut_compositions n g,
      later,
      over_numbers-suc n (λ i j. sum_over (λ u. sum_over (λ v. f u v) (compositions j)) (compositions i)),
    )
  where
    swap : (u : List ℕ) (j : ℕ) → sum_over (λ v. sum_over (λ k. f k v) (longer_compositions u)) (compositions j) ≡ sum_over (λ k. sum_over (λ v. f k v) (compositions j)) (longer_compositions u)
    swap u j = sum_over-swap (λ v k. f k v) (compositions j) (longer_compositions u)
