-- The signed sum over the refinements of a composition, of the cuts of their words, is the sum over the cuts of the composition.
use Rattle.std.proofs.Common.{◌≡◌, ℕ, zero, suc, List, [], ◌∷◌, refl, ◌∙◌, ap, arith}
use Rattle.std.proofs.Math.IntN.{ℤ, pos, neg_ℤ, ◌+ℤ◌, ◌*ℤ◌, zero-*ℤ}
use Rattle.std.proofs.lemmas.Int.{ints}
use Rattle.hopf_num.proofs.Ring.{*ℤ-+ℤ, +ℤ-*ℤ, *ℤ-neg_ℤ}
use Rattle.realisations.specs.Descents.{longer_first, descent_composition, word_of_composition}
use Rattle.realisations.specs.IndexKinds.{IsComposition}
use Rattle.realisations.specs.Words.{word_cuts}
use Rattle.pairing_laws.proofs.IntegerProducts.{neg-times}
use Rattle.antipode_laws.proofs.IntegerSums.{sum_over_same, sum_over-add, sum_over-neg}
use Rattle.pairing_laws.proofs.CompositionsOfSize.{over_parts, over_parts-cons}
use Rattle.pairing_laws.proofs.Refinements.{signed_refinements, signed_refinements_same, signed_refinements-linear}
use Rattle.pairing_laws.proofs.DescentWords.{over_descents, over_descents-one, over_descents-longer}

-- a difference of functions of the front
over_descents-minus : (f h g : List ℕ → ℤ) (i : List ℕ) → over_descents (λ k. f k +ℤ neg_ℤ (h k)) g i ≡ over_descents f g i +ℤ neg_ℤ (over_descents h g i)
over_descents-minus f h g i =
    let front = λ (f : List ℕ → ℤ) (c : List ℕ × List ℕ). f (descent_composition c.0) *ℤ g (descent_composition c.1) in
    sum_over_same _ (λ (c : List ℕ × List ℕ). front f c +ℤ neg_ℤ (front h c))
    (λ (c : List ℕ × List ℕ).
    +ℤ-*ℤ (f (descent_composition c.0)) (neg_ℤ (h (descent_composition c.0))) (g (descent_composition c.1))
    ∙ ap (λ z. front f c +ℤ z) (neg-times (h (descent_composition c.0)) (g (descent_composition c.1))))
    (word_cuts (word_of_composition i))
    ∙ sum_over-add (front f) (λ (c : List ℕ × List ℕ). neg_ℤ (front h c)) (word_cuts (word_of_composition i))
    ∙ ap (λ z. over_descents f g i +ℤ z) (sum_over-neg (front h) (word_cuts (word_of_composition i)))

-- the products of the sums over the refinements of the two parts of a cut
abbrev parts_product : (List ℕ → ℤ) → (List ℕ → ℤ) → List ℕ → List ℕ → ℤ
parts_product f g u v = signed_refinements u f *ℤ signed_refinements v g

split_part : (n : ℕ) (j : List ℕ) → IsComposition (n ∷ j) → ((f g : List ℕ → ℤ) → signed_refinements j (over_descents f g) ≡ over_parts (parts_product f g) j)
    → (f g : List ℕ → ℤ) → signed_refinements (n ∷ j) (over_descents f g) ≡ over_parts (parts_product f g) (n ∷ j)
split_part zero j h ih f g = absurd (omega (arith, h.0))
split_part (suc zero) j h ih f g =
    let steps : signed_refinements j (λ i. over_descents f g (1 ∷ i)) ≡ signed_refinements j (λ i. f [] *ℤ g (1 ∷ i) +ℤ over_descents (λ k. f (1 ∷ k)) g i) =
    signed_refinements_same j _ _ (λ i hi. over_descents-one f g i hi) in
    omega (
      arith,
      ints,
      steps,
      signed_refinements-linear j (f []) (λ i. g (1 ∷ i)) (over_descents (λ k. f (1 ∷ k)) g),
      ih (λ k. f (1 ∷ k)) g,
      over_parts-cons (parts_product f g) 1 j,
    )
split_part (suc (suc n)) j h ih f g =
    let f' : List ℕ → ℤ = λ k. f (longer_first k) +ℤ neg_ℤ (f (1 ∷ k)) in
    let g' : List ℕ → ℤ = λ i. g (longer_first i) +ℤ neg_ℤ (g (1 ∷ i)) in
    let steps : signed_refinements (suc n ∷ j) (λ i. over_descents f g (longer_first i) +ℤ neg_ℤ (over_descents f g (1 ∷ i))) ≡ signed_refinements (suc n ∷ j) (λ i. f [] *ℤ g' i +ℤ over_descents f' g i) =
    signed_refinements_same (suc n ∷ j) _ _ (λ i hi.
    omega (
      arith,
      ints,
      over_descents-one f g i hi,
      over_descents-longer f g i hi,
      *ℤ-+ℤ (f []) (g (longer_first i)) (neg_ℤ (g (1 ∷ i))),
      *ℤ-neg_ℤ (f []) (g (1 ∷ i)),
      over_descents-minus (λ k. f (longer_first k)) (λ k. f (1 ∷ k)) g i,
    )) in
    let nothing : f' [] ≡ pos 0 = omega (arith, ints) in
    let front : f' [] *ℤ signed_refinements (suc n ∷ j) g ≡ pos 0 = ap (λ z. z *ℤ signed_refinements (suc n ∷ j) g) nothing ∙ zero-*ℤ (signed_refinements (suc n ∷ j) g) in
    omega (
      arith,
      ints,
      steps,
      signed_refinements-linear (suc n ∷ j) (f []) g' (over_descents f' g),
      split_part (suc n) j (omega arith, h.1) ih f' g,
      over_parts-cons (parts_product f' g) (suc n) j,
      over_parts-cons (parts_product f g) (suc (suc n)) j,
      front,
    )

-- over all parts
pub split_refinements : (j : List ℕ) → IsComposition j → (f g : List ℕ → ℤ) →
    signed_refinements j (over_descents f g) ≡ over_parts (λ u v. signed_refinements u f *ℤ signed_refinements v g) j
split_refinements [] h f g = refl
split_refinements (n ∷ j) h f g = split_part n j h (λ f g. split_refinements j h.1 f g) f g
