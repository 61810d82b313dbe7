-- The pairing of words with exponents, as a sum over compositions.
use Rattle.std.proofs.Common.{◌≡◌, ℕ, zero, suc, ◌+◌, ◌-◌, List, [], ◌∷◌, map, length, sym, ◌∙◌, ap}
use Rattle.std.proofs.Math.IntN.{ℤ, ◌*ℤ◌, *ℤ_comm}
use Rattle.std.specs.List.{AllByRecursion}
use Rattle.realisations.specs.Lists.{with_sign}
use Rattle.realisations.specs.Descents.{word_of_composition}
use Rattle.realisations.specs.IndexKinds.{IsComposition}
use Rattle.realisations.specs.Pairings.{Paired, compositions, refinements, up_to, paired_points}
use Rattle.realisations.specs.Points.{word, exponents}
use Rattle.realisations.specs.Readings.{Reading, pairing, kinds_of, numerator}
use Rattle.pairing_laws.proofs.IntegerProducts.{with_sign-plus}
use Rattle.antipode_laws.proofs.IntegerSums.{with_sign-times_right}
use Rattle.antipode_laws.proofs.IntegerSums.{sum_over, sum_over_same, sum_over-map, sum_over-flat_map, sum_over-swap, sum_over-times, with_sign-sum_over}
use Rattle.realisations.proofs.Every.{every-weaker, every-append}
use Rattle.antipode_laws.proofs.ReadAtPoints.{sum_over_every}
use Rattle.pairing_laws.proofs.CompositionsOfSize.{IsCompositionOf, compositions_of_size}
use Rattle.pairing_laws.proofs.Refinements.{signed_refinements, refinements_sum}
use Rattle.pairing_laws.proofs.PairedReadings.{pairing_of_one, pairing_of_two}

-- all compositions of numbers up to n are compositions
pub compositions_up_to : (n : ℕ) → AllByRecursion IsComposition (up_to compositions n)
compositions_up_to zero = (tt, tt)
compositions_up_to (suc n) =
    every-append IsComposition (up_to compositions n) (compositions (suc n)) (compositions_up_to n)
    (every-weaker (IsCompositionOf (suc n)) IsComposition (λ j is. is.composition) (compositions (suc n)) (compositions_of_size (suc n)))

-- the places of words and exponents
pub word_places : (n : ℕ) (f : Paired (List ℕ) → ℤ) →
    sum_over f (paired_points n word exponents)
    ≡ sum_over (λ j. sum_over (λ i. f (length i - length j, word_of_composition i, j)) (refinements j)) (up_to compositions n)
word_places n f =
    sum_over-flat_map f (λ j. map (λ i. (length i - length j, word_of_composition i, j)) (refinements j)) (up_to compositions n)
    ∙ sum_over_same _ _ (λ j. sum_over-map f (λ i. (length i - length j, word_of_composition i, j)) (refinements j)) (up_to compositions n)

-- the places of exponents and words
pub exponent_places : (n : ℕ) (f : Paired (List ℕ) → ℤ) →
    sum_over f (paired_points n exponents word)
    ≡ sum_over (λ j. sum_over (λ i. f (length i - length j, j, word_of_composition i)) (refinements j)) (up_to compositions n)
exponent_places n f =
    sum_over-flat_map f (λ j. map (λ i. (length i - length j, j, word_of_composition i)) (refinements j)) (up_to compositions n)
    ∙ sum_over_same _ _ (λ j. sum_over-map f (λ i. (length i - length j, j, word_of_composition i)) (refinements j)) (up_to compositions n)

-- over the refinements of one composition
one_refined : (j : List ℕ) → IsComposition j → (f : List ℕ → ℤ) (z : ℤ) →
    sum_over (λ i. with_sign (length i - length j) (f i *ℤ z)) (refinements j) ≡ signed_refinements j f *ℤ z
one_refined j h f z =
    sum_over_same _ (λ i. with_sign (length i - length j) (f i) *ℤ z) (λ i. with_sign-times_right (length i - length j) (f i) z) (refinements j)
    ∙ sym (sum_over-times (λ i. with_sign (length i - length j) (f i)) z (refinements j))
    ∙ ap (λ y. y *ℤ z) (refinements_sum j h f)

-- over the refinements of two
two_refined : (j k : List ℕ) → IsComposition j → IsComposition k → (f : List ℕ → List ℕ → ℤ) (z : ℤ) →
    sum_over (λ i. sum_over (λ l. with_sign ((length i - length j) + (length l - length k)) (f i l *ℤ z)) (refinements k)) (refinements j)
    ≡ signed_refinements j (λ i. signed_refinements k (f i)) *ℤ z
two_refined j k hj hk f z =
    sum_over_same _ (λ i. with_sign (length i - length j) (signed_refinements k (f i) *ℤ z))
    (λ i.
    sum_over_same _ _ (λ l. with_sign-plus (length i - length j) (length l - length k) (f i l *ℤ z)) (refinements k)
    ∙ sym (with_sign-sum_over (length i - length j) (λ l. with_sign (length l - length k) (f i l *ℤ z)) (refinements k))
    ∙ ap (with_sign (length i - length j)) (one_refined k hk (f i) z))
    (refinements j)
    ∙ one_refined j hj (λ i. signed_refinements k (f i)) z

module _ (n : ℕ) (a g : Reading) where
  -- the pairing of a word with exponents
  pub pairing_word_exponents : kinds_of a ≡ word ∷ [] → kinds_of g ≡ exponents ∷ [] →
      numerator (pairing n a g) [] ≡ sum_over (λ j. signed_refinements j (λ i. numerator a (word_of_composition i ∷ [])) *ℤ numerator g (j ∷ [])) (up_to compositions n)
  pairing_word_exponents ka kg =
      pairing_of_one n a g word exponents ka kg
      ∙ word_places n (λ (t : Paired (List ℕ)). with_sign t.0 (numerator a (t.1 ∷ []) *ℤ numerator g (t.2 ∷ [])))
      ∙ sum_over_every IsComposition _ _ (λ j h. one_refined j h (λ i. numerator a (word_of_composition i ∷ [])) (numerator g (j ∷ []))) (up_to compositions n) (compositions_up_to n)

  -- of exponents with a word
  pub pairing_exponents_word : kinds_of g ≡ exponents ∷ [] → kinds_of a ≡ word ∷ [] →
      numerator (pairing n g a) [] ≡ sum_over (λ j. signed_refinements j (λ i. numerator a (word_of_composition i ∷ [])) *ℤ numerator g (j ∷ [])) (up_to compositions n)
  pairing_exponents_word kg ka =
      pairing_of_one n g a exponents word kg ka
      ∙ exponent_places n (λ (t : Paired (List ℕ)). with_sign t.0 (numerator g (t.1 ∷ []) *ℤ numerator a (t.2 ∷ [])))
      ∙ sum_over_every IsComposition _ _
      (λ j h.
      sum_over_same _ _ (λ i. ap (with_sign (length i - length j)) (*ℤ_comm (numerator g (j ∷ [])) (numerator a (word_of_composition i ∷ [])))) (refinements j)
      ∙ one_refined j h (λ i. numerator a (word_of_composition i ∷ [])) (numerator g (j ∷ [])))
      (up_to compositions n) (compositions_up_to n)

  -- of two words with two lists of exponents
  pub pairing_two_words : kinds_of a ≡ word ∷ word ∷ [] → kinds_of g ≡ exponents ∷ exponents ∷ [] →
      numerator (pairing n a g) []
      ≡ sum_over (λ j. sum_over (λ k. signed_refinements j (λ i. signed_refinements k (λ l. numerator a (word_of_composition i ∷ word_of_composition l ∷ []))) *ℤ numerator g (j ∷ k ∷ [])) (up_to compositions n)) (up_to compositions n)
  pairing_two_words ka kg =
      pairing_of_two n a g word exponents word exponents ka kg
      ∙ word_places n _
      ∙ sum_over_every IsComposition _ _
      (λ j hj.
      sum_over_same _ _ (λ i. word_places n (λ (u : Paired (List ℕ)). with_sign ((length i - length j) + u.0) (numerator a (word_of_composition i ∷ u.1 ∷ []) *ℤ numerator g (j ∷ u.2 ∷ [])))) (refinements j)
      ∙ sum_over-swap (λ i k. sum_over (λ l. with_sign ((length i - length j) + (length l - length k)) (numerator a (word_of_composition i ∷ word_of_composition l ∷ []) *ℤ numerator g (j ∷ k ∷ []))) (refinements k)) (refinements j) (up_to compositions n)
      ∙ sum_over_every IsComposition _ _
      (λ k hk. two_refined j k hj hk (λ i l. numerator a (word_of_composition i ∷ word_of_composition l ∷ [])) (numerator g (j ∷ k ∷ [])))
      (up_to compositions n) (compositions_up_to n))
      (up_to compositions n) (compositions_up_to n)

  -- of two lists of exponents with two words
  pub pairing_two_exponents : kinds_of g ≡ exponents ∷ exponents ∷ [] → kinds_of a ≡ word ∷ word ∷ [] →
      numerator (pairing n g a) []
      ≡ sum_over (λ j. sum_over (λ k. signed_refinements j (λ i. signed_refinements k (λ l. numerator a (word_of_composition i ∷ word_of_composition l ∷ []))) *ℤ numerator g (j ∷ k ∷ [])) (up_to compositions n)) (up_to compositions n)
  pairing_two_exponents kg ka =
      pairing_of_two n g a exponents word exponents word kg ka
      ∙ exponent_places n _
      ∙ sum_over_every IsComposition _ _
      (λ j hj.
      sum_over_same _ _
      (λ i. exponent_places n (λ (u : Paired (List ℕ)). with_sign ((length i - length j) + u.0) (numerator g (j ∷ u.1 ∷ []) *ℤ numerator a (word_of_composition i ∷ u.2 ∷ [])))
      ∙ sum_over_same _ _
      (λ k. sum_over_same _ _ (λ l. ap (with_sign ((length i - length j) + (length l - length k))) (*ℤ_comm (numerator g (j ∷ k ∷ [])) (numerator a (word_of_composition i ∷ word_of_composition l ∷ [])))) (refinements k))
      (up_to compositions n))
      (refinements j)
      ∙ sum_over-swap (λ i k. sum_over (λ l. with_sign ((length i - length j) + (length l - length k)) (numerator a (word_of_composition i ∷ word_of_composition l ∷ []) *ℤ numerator g (j ∷ k ∷ []))) (refinements k)) (refinements j) (up_to compositions n)
      ∙ sum_over_every IsComposition _ _
      (λ k hk. two_refined j k hj hk (λ i l. numerator a (word_of_composition i ∷ word_of_composition l ∷ [])) (numerator g (j ∷ k ∷ [])))
      (up_to compositions n) (compositions_up_to n))
      (up_to compositions n) (compositions_up_to n)
