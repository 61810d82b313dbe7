-- Products and coproducts of functions of words are adjoint under the pairing over permutations.
use Rattle.std.proofs.Common.{◌≡◌, ℕ, ◌+◌, ◌<◌, List, length, sym, ◌∙◌, ap, arith}
use Rattle.std.proofs.Math.IntN.{ℤ, pos, ◌*ℤ◌, *ℤ-zero}
use Rattle.std.proofs.lemmas.List.{length-map}
use Rattle.realisations.specs.Words.{raise, shuffles}
use Rattle.realisations.specs.Standardisation.{place_of, inverse, standardise}
use Rattle.realisations.specs.Pairings.{permutations, up_to}
use Rattle.realisations.specs.Exponents.{number_cuts}
use Rattle.realisations.specs.Points.{word}
use Rattle.antipode_laws.proofs.IntegerSums.{sum_over, sum_over-swap, sum_over-zero, sum_over-times, times-sum_over}
use Rattle.antipode_laws.proofs.ReadAtPoints.{sum_over_every}
use Rattle.antipode_laws.proofs.ExponentCuts.{over_numbers, over_numbers_same}
use Rattle.antipode_laws.proofs.Shuffling.{over}
use Rattle.antipode_laws.proofs.OperationReads.{over_ordinal_sum, over_point_cuts}
use Rattle.pairing_laws.proofs.ShuffledWords.{IsOfLetters, shuffles_of_letters}
use Rattle.coproduct_laws.proofs.CutLetters.{greatest-permutation}
use Rattle.pairing_laws.proofs.PermutationsOfSize.{IsPermutationOf, each_permutation, permutations_split}
use Rattle.pairing_laws.proofs.RangeCuts.{range_cuts}
use Rattle.pairing_laws.proofs.InversesOfShuffles.{places, inverses_of_shuffles}
use Rattle.pairing_laws.proofs.TriangleSums.{sum_to-up_to, sum_to_same, pairs_of_sizes}

module _ (a b g : List ℕ → ℤ)
    (same_a : (u v : List ℕ) → standardise u ≡ standardise v → a u ≡ a v)
    (same_b : (u v : List ℕ) → standardise u ≡ standardise v → b u ≡ b v) where
  -- the product at the inverse of a permutation, times g
  abbrev paired_product : List ℕ → ℤ
  paired_product s = over_point_cuts word (λ u v. a u *ℤ b v) (inverse s) *ℤ g s

  -- both factors, times the coproduct of g
  abbrev paired_factors : List ℕ → List ℕ → ℤ
  paired_factors s t = (a (inverse s) *ℤ b (inverse t)) *ℤ over_ordinal_sum word g s t

  -- over two sizes
  abbrev over_sizes : ℕ → ℕ → ℤ
  over_sizes i j = sum_over (λ s. sum_over (λ t. paired_factors s t) (permutations j)) (permutations i)

  -- a cut of the inverse after i letters
  abbrev after : ℕ → ℕ → List ℕ → ℤ
  after i j s = (a (places s 1 i) *ℤ b (places s (1 + i) j)) *ℤ g s

  cut_inverse : (n : ℕ) (s : List ℕ) → IsPermutationOf n s → paired_product s ≡ over_numbers n (λ i j. after i j s)
  cut_inverse n s has =
      ap (λ m. over_point_cuts word (λ u v. a u *ℤ b v) (places s 1 m) *ℤ g s) has.size
      ∙ ap (λ z. z *ℤ g s) (range_cuts (λ u v. a u *ℤ b v) (λ k. place_of k s) n 1)
      ∙ sum_over-times (λ (e : ℕ × ℕ). a (places s 1 e.0) *ℤ b (places s (1 + e.0) e.1)) (g s) (number_cuts n)

  -- over the shuffles of two permutations
  over_shuffles : (i j : ℕ) (s t : List ℕ) → IsPermutationOf i s → IsPermutationOf j t → over (after i j) s (raise i t) ≡ paired_factors s t
  over_shuffles i j s t hs ht =
      sum_over_every (λ x. (standardise (places x 1 i) ≡ standardise (inverse s)) × (standardise (places x (i + 1) j) ≡ standardise (inverse t)))
      (after i j) (λ x. (a (inverse s) *ℤ b (inverse t)) *ℤ g x)
      (λ x e.
      let start : 1 + i ≡ i + 1 = omega arith in
      let first = same_a (places x 1 i) (inverse s) e.0 in
      let second = ap (λ m. b (places x m j)) start ∙ same_b (places x (i + 1) j) (inverse t) e.1 in
      λ i. (first i *ℤ second i) *ℤ g x)
      (shuffles s (raise i t)) (inverses_of_shuffles i j s t hs ht)
      ∙ sym (times-sum_over (a (inverse s) *ℤ b (inverse t)) g (shuffles s (raise i t)))
      ∙ ap (λ m. (a (inverse s) *ℤ b (inverse t)) *ℤ over g s (raise m t)) (sym (greatest-permutation s hs.once ∙ hs.size))

  -- the permutations of one size
  of_size : (n : ℕ) → sum_over paired_product (permutations n) ≡ over_numbers n over_sizes
  of_size n =
      sum_over_every (IsPermutationOf n) paired_product (λ s. over_numbers n (λ i j. after i j s)) (cut_inverse n) (permutations n) (each_permutation n)
      ∙ sum_over-swap (λ s (e : ℕ × ℕ). after e.0 e.1 s) (permutations n) (number_cuts n)
      ∙ over_numbers_same n _ _ (λ i j e.
      permutations_split j i n e (after i j)
      ∙ sum_over_every (IsPermutationOf i) _ _
      (λ s hs. sum_over_every (IsPermutationOf j) _ _ (λ t ht. over_shuffles i j s t hs ht) (permutations j) (each_permutation j))
      (permutations i) (each_permutation i))

  module _ (n : ℕ) (none : (w : List ℕ) → n < length w → g w ≡ pos 0) where
    -- larger sizes give nothing
    too_large : (i j : ℕ) → n < i + j → over_sizes i j ≡ pos 0
    too_large i j large =
        sum_over_every (IsPermutationOf i) _ (λ s. pos 0)
        (λ s hs.
        sum_over_every (IsPermutationOf j) _ (λ t. pos 0)
        (λ t ht.
        ap (λ m. (a (inverse s) *ℤ b (inverse t)) *ℤ over g s (raise m t)) (greatest-permutation s hs.once ∙ hs.size)
        ∙ ap (λ z. (a (inverse s) *ℤ b (inverse t)) *ℤ z)
        (sum_over_every (IsOfLetters s (raise i t)) g (λ x. pos 0)
        (λ x is. none x (omega (arith, is.size, hs.size, ht.size, length-map t (λ y. i + y), large)))
        (shuffles s (raise i t)) (shuffles_of_letters s (raise i t))
        ∙ sum_over-zero (shuffles s (raise i t)))
        ∙ *ℤ-zero (a (inverse s) *ℤ b (inverse t)))
        (permutations j) (each_permutation j)
        ∙ sum_over-zero (permutations j))
        (permutations i) (each_permutation i)
        ∙ sum_over-zero (permutations i)

    -- the permutations of all sizes up to n
    pub adjoint_on_words :
        sum_over (λ s. over_point_cuts word (λ u v. a u *ℤ b v) (inverse s) *ℤ g s) (up_to permutations n)
        ≡ sum_over (λ s. sum_over (λ t. (a (inverse s) *ℤ b (inverse t)) *ℤ over_ordinal_sum word g s t) (up_to permutations n)) (up_to permutations n)
    adjoint_on_words =
        sum_to-up_to paired_product permutations n
        ∙ sum_to_same n _ _ of_size
        ∙ pairs_of_sizes n permutations paired_factors too_large
