-- The permutations of n + 1, from those of n: by the standardisation of the letters behind the first one.
use Rattle.std.proofs.Common.{◌≡◌, ℕ, ◌+◌, ◌<◌, ◌≤◌, List, [], ◌∷◌, length, take, drop, get_or, refl, sym, ◌∙◌, ap, subst, arith}
use Rattle.std.proofs.lemmas.List.{length-append, length-drop, take-append-drop, take_all}
use Rattle.realisations.specs.Codes.{Code}
use Rattle.realisations.specs.Standardisation.{standardise}
use Rattle.basis_representatives.proofs.Permutations.{permutation_from, permutation-standardise}
use Rattle.basis_representatives.proofs.SameOrder.{length-standardise}
use Rattle.word_laws.specs.AddedCodes.{AddsEach, times_in}
use Rattle.word_laws.specs.Merges.{IsConvolution, IsConvolutionFront, IsConvolutionPast}
use Rattle.word_laws.proofs.AddedCodes.{adds_more, adds_none, adds_one, adds_same}
use Rattle.word_laws.proofs.Convolutions.{convolution_front, convolution_is_spread, convolution_start}
use Rattle.permutation_words.specs.Sizes.{IsPermutationOf}
use Rattle.permutation_words.proofs.CanonicalOrder.{added_all, added_has, added_once, counted_at}

-- those whose letters behind the first one have the standardisation v are the convolutions of 1 and v
convolution_of_one : (n : ℕ) (v w : Code) → IsPermutationOf n v → IsConvolution (1 ∷ []) v w → IsPermutationOf (n + 1) w × (standardise (drop 1 w) ≡ v)
convolution_of_one n v w hv h =
    let first : length (take 1 w) ≡ 1 = sym (length-standardise (take 1 w)) ∙ ap (λ (u : Code). length u) h.front in
    let others : length (drop 1 w) ≡ n = sym (length-standardise (drop 1 w)) ∙ ap (λ (u : Code). length u) h.back ∙ hv.1 in
    ((h.permutation, omega (arith, ap (λ (u : Code). length u) (take-append-drop 1 w), length-append (take 1 w) (drop 1 w), first, others)), h.back)

standard_one : (w : Code) → 1 ≤ length w → standardise (take 1 w) ≡ 1 ∷ []
standard_one [] some = absurd (omega (arith, some))
standard_one (x ∷ w) some = refl

one_is_convolution : (n : ℕ) (v w : Code) → IsPermutationOf (n + 1) w × (standardise (drop 1 w) ≡ v) → IsConvolution (1 ∷ []) v w
one_is_convolution n v w h = record { permutation = h.0.0; front = standard_one w (omega (arith, h.0.1)); back = h.1 }

module _ (n : ℕ) (codes : List Code) (all : AddsEach (IsPermutationOf n) [] codes) where
  -- each of the codes is a permutation of n
  one_of_them : (i : ℕ) (v : Code) → i < length codes → v ≡ get_or codes i [] → IsPermutationOf n v
  one_of_them i v lt here = added_has (IsPermutationOf n) codes all v (counted_at codes i v lt here)

  -- 1 and one of them can be convolved
  pub grown_front : (i : ℕ) (first v : Code) → n ≤ 7 → first ≡ 1 ∷ [] → i < length codes → v ≡ get_or codes i [] → IsConvolutionFront 0 first v
  grown_front i first v few one lt here =
      let hv = one_of_them i v lt here in
      subst (λ u. IsConvolutionFront 0 u v) (sym one) (convolution_front (1 ∷ []) v refl hv.0 (omega (arith, hv.1, few)))

  -- the words that were found from the first codes
  abbrev pub GrownFrom : ℕ → Code → Type 0
  GrownFrom i w = IsPermutationOf (n + 1) w × (1 ≤ times_in (standardise (drop 1 w)) (take i codes))

  pub grown_start : AddsEach (GrownFrom 0) [] []
  grown_start = adds_none (GrownFrom 0) [] (λ w h. absurd (omega (arith, h.1)))

  pub grown_more : (i : ℕ) (first v : Code) (longer new : List Code) → first ≡ 1 ∷ [] → i < length codes → v ≡ get_or codes i []
      → AddsEach (GrownFrom i) [] longer → AddsEach (IsConvolutionPast 0 first v) longer new → AddsEach (GrownFrom (i + 1)) [] new
  grown_more i first v longer new one lt here before adds =
      let hv = one_of_them i v lt here in
      adds_more (IsPermutationOf (n + 1)) (λ w. standardise (drop 1 w)) codes longer new i v lt here (added_once (IsPermutationOf n) codes all v) before
      (adds_same (IsConvolutionPast 0 (1 ∷ []) v) (λ w. IsPermutationOf (n + 1) w × (standardise (drop 1 w) ≡ v)) longer new
      (λ w h. convolution_of_one n v w hv (convolution_start (1 ∷ []) v refl hv.0 w h))
      (λ w h. convolution_is_spread (1 ∷ []) v refl hv.0 w (one_is_convolution n v w h))
      (subst (λ u. AddsEach (IsConvolutionPast 0 u v) longer new) one adds))

  -- from all codes all are found
  pub grown_whole : (i : ℕ) (longer : List Code) → length codes ≤ i → AddsEach (GrownFrom i) [] longer → AddsEach (IsPermutationOf (n + 1)) [] longer
  grown_whole i longer end adds =
      adds_same (GrownFrom i) (IsPermutationOf (n + 1)) [] longer (λ w h. h.0)
      (λ w h. (
        h,
        subst (λ ws. 1 ≤ times_in (standardise (drop 1 w)) ws) (sym (take_all i codes end))
            (added_all (IsPermutationOf n) codes all (standardise (drop 1 w))
            (permutation_from (standardise (drop 1 w)) (permutation-standardise (drop 1 w)), omega (arith, length-standardise (drop 1 w), length-drop 1 w, h.1))),
      ))
      adds

-- the only permutation of 0
pub no_letters : AddsEach (IsPermutationOf 0) [] ([] ∷ [])
no_letters = adds_one (IsPermutationOf 0) [] [] (refl, refl) only
  where
    only : (w : Code) → IsPermutationOf 0 w → w ≡ []
    only [] h = refl
    only (x ∷ w) h = absurd (omega (arith, h.1))
