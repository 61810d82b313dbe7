-- Products over NCSF and coproducts over QSym are adjoint under the pairing of words with exponents.
use Rattle.std.proofs.Common.{◌≡◌, ℕ, ◌+◌, ◌<◌, List, [], ◌∷◌, ◌++◌, refl, sym, ◌∙◌, ap, arith}
use Rattle.std.proofs.Math.IntN.{ℤ, pos, ◌+ℤ◌, ◌*ℤ◌, *ℤ-zero, *ℤ_comm}
use Rattle.std.specs.List.{AllByRecursion}
use Rattle.std.proofs.lemmas.Int.{ints}
use Rattle.realisations.specs.Descents.{descent_composition, word_of_composition}
use Rattle.realisations.specs.IndexKinds.{IsComposition}
use Rattle.realisations.specs.Pairings.{compositions, up_to}
use Rattle.realisations.specs.Points.{word, exponents}
use Rattle.realisations.specs.Words.{word_cuts}
use Rattle.realisations.specs.Readings.{Reading, applied, product, tensor, pairing, coproduct, numerator}
use Rattle.pairing_laws.specs.Adjoints.{AreAdjoint}
use Rattle.pairing_laws.specs.Sight.{Sees, IsUpTo}
use Rattle.antipode_laws.proofs.IntegerSums.{sum_over, sum_over_same, sum_over-times, sum_over-zero}
use Rattle.realisations.proofs.Every.{every-map}
use Rattle.antipode_laws.proofs.ReadAtPoints.{sum_over_every}
use Rattle.antipode_laws.proofs.ExponentsOfOne.{sum-append}
use Rattle.pairing_laws.proofs.CompositionsOfSize.{IsCompositionOf, compositions_of_size, over_parts, cut_compositions}
use Rattle.pairing_laws.proofs.Refinements.{signed_refinements, signed_refinements_same, signed_refinements-linear}
use Rattle.basis_representatives.proofs.BlockWords.{descent_composition-word_of_composition}
use Rattle.basis_representatives.proofs.Steps.{IsComposition-descent_composition}
use Rattle.pairing_laws.proofs.DescentWords.{over_descents}
use Rattle.pairing_laws.proofs.CutRefinements.{split_refinements}
use Rattle.pairing_laws.proofs.TriangleSums.{sum_to-up_to, sum_to_same, pairs_of_sizes}
use Rattle.antipode_laws.proofs.RankOneReadings.{coproduct_is, product_is}
use Rattle.pairing_laws.proofs.PairedReadings.{tensor_is, kinds_of_tensor, kinds_of_coproduct}
use Rattle.pairing_laws.proofs.PairingsWithExponents.{compositions_up_to, pairing_word_exponents, pairing_two_words}

-- the two parts of a cut make the whole
pub parts_joined : (w : List ℕ) → AllByRecursion (λ (c : List ℕ × List ℕ). c.0 ++ c.1 ≡ w) (word_cuts w)
parts_joined [] = (refl, tt)
parts_joined (x ∷ w) =
    (refl, every-map (λ (c : List ℕ × List ℕ). c.0 ++ c.1 ≡ w) (λ (c : List ℕ × List ℕ). c.0 ++ c.1 ≡ x ∷ w) (λ (c : List ℕ × List ℕ). (x ∷ c.0, c.1)) (λ c e. ap (λ v. x ∷ v) e) (word_cuts w) (parts_joined w))

-- a factor that does not depend on the refinement
pub signed_refinements-times : (j : List ℕ) (z : ℤ) (f : List ℕ → ℤ) → signed_refinements j (λ i. z *ℤ f i) ≡ z *ℤ signed_refinements j f
signed_refinements-times j z f =
    signed_refinements_same j (λ i. z *ℤ f i) (λ i. z *ℤ f i +ℤ pos 0) (λ i h. omega (arith, ints))
    ∙ signed_refinements-linear j z f (λ i. pos 0)
    ∙ omega (arith, ints, nothing)
  where
    nothing : signed_refinements j (λ i. pos 0) ≡ pos 0
    nothing =
        let twice = signed_refinements-linear j (pos 1) (λ i. pos 0) (λ i. pos 0) in
        omega (arith, ints, twice)

module _ (n : ℕ) (a b g : Reading) (sa : Sees word (λ w. descent_composition w) a) (sb : Sees word (λ w. descent_composition w) b) (sg : IsUpTo n exponents g) where
  -- the readings at the words of compositions
  abbrev front : List ℕ → ℤ
  front i = numerator a (word_of_composition i ∷ [])

  abbrev back : List ℕ → ℤ
  back i = numerator b (word_of_composition i ∷ [])

  -- the product at the word of a composition, by descent compositions
  product_by_descents : (i : List ℕ) → numerator (product a b) (word_of_composition i ∷ []) ≡ over_descents front back i
  product_by_descents i =
      product_is word a sa.kinds b (word_of_composition i)
      ∙ sum_over_same _ _
      (λ (c : List ℕ × List ℕ).
      let first = sa.same c.0 (word_of_composition (descent_composition c.0)) (sym (descent_composition-word_of_composition (descent_composition c.0) (IsComposition-descent_composition c.0))) in
      let second = sb.same c.1 (word_of_composition (descent_composition c.1)) (sym (descent_composition-word_of_composition (descent_composition c.1) (IsComposition-descent_composition c.1))) in
      λ x. first x *ℤ second x)
      (word_cuts (word_of_composition i))

  -- a pair of compositions
  abbrev at_pair : List ℕ → List ℕ → ℤ
  at_pair u v = (signed_refinements u front *ℤ signed_refinements v back) *ℤ numerator g ((u ++ v) ∷ [])

  left_side : numerator (pairing n (product a b) g) [] ≡ sum_over (λ j. over_parts at_pair j) (up_to compositions n)
  left_side =
      pairing_word_exponents n (product a b) g sa.kinds sg.kinds
      ∙ sum_over_every IsComposition _ _
      (λ j h.
      ap (λ z. z *ℤ numerator g (j ∷ []))
      (signed_refinements_same j _ _ (λ i hi. product_by_descents i) ∙ split_refinements j h front back)
      ∙ sum_over-times (λ (c : List ℕ × List ℕ). signed_refinements c.0 front *ℤ signed_refinements c.1 back) (numerator g (j ∷ [])) (word_cuts j)
      ∙ sum_over_every (λ (c : List ℕ × List ℕ). c.0 ++ c.1 ≡ j) _ _
      (λ c e. ap (λ p. (signed_refinements c.0 front *ℤ signed_refinements c.1 back) *ℤ numerator g (p ∷ [])) (sym e))
      (word_cuts j) (parts_joined j))
      (up_to compositions n) (compositions_up_to n)

  right_side : numerator (pairing n (tensor a b) (applied coproduct 0 g)) [] ≡ sum_over (λ u. sum_over (at_pair u) (up_to compositions n)) (up_to compositions n)
  right_side =
      pairing_two_words n (tensor a b) (applied coproduct 0 g) (kinds_of_tensor a b word word sa.kinds sb.kinds) (kinds_of_coproduct g exponents sg.kinds)
      ∙ sum_over_same _ _
      (λ j. sum_over_same _ _
      (λ k.
      let factors : signed_refinements j (λ i. signed_refinements k (λ l. numerator (tensor a b) (word_of_composition i ∷ word_of_composition l ∷ []))) ≡ signed_refinements j front *ℤ signed_refinements k back =
      signed_refinements_same j _ (λ i. signed_refinements k back *ℤ front i)
      (λ i hi. signed_refinements_same k _ (λ l. front i *ℤ back l) (λ l hl. tensor_is a b word sa.kinds (word_of_composition i) (word_of_composition l))
      ∙ signed_refinements-times k (front i) back ∙ *ℤ_comm (front i) (signed_refinements k back))
      ∙ signed_refinements-times j (signed_refinements k back) front
      ∙ *ℤ_comm (signed_refinements k back) (signed_refinements j front) in
      let copy : numerator (applied coproduct 0 g) (j ∷ k ∷ []) ≡ numerator g ((j ++ k) ∷ []) =
      coproduct_is exponents g sg.kinds j k ∙ omega (arith, ints) in
      λ x. factors x *ℤ copy x)
      (up_to compositions n))
      (up_to compositions n)

  too_large : (i j : ℕ) → n < i + j → sum_over (λ u. sum_over (at_pair u) (compositions j)) (compositions i) ≡ pos 0
  too_large i j large =
      sum_over_every (IsCompositionOf i) _ (λ u. pos 0)
      (λ u hu.
      sum_over_every (IsCompositionOf j) _ (λ v. pos 0)
      (λ v hv.
      ap (λ z. (signed_refinements u front *ℤ signed_refinements v back) *ℤ z) (sg.past (u ++ v) (omega (arith, sum-append u v, hu.size, hv.size, large)))
      ∙ *ℤ-zero (signed_refinements u front *ℤ signed_refinements v back))
      (compositions j) (compositions_of_size j)
      ∙ sum_over-zero (compositions j))
      (compositions i) (compositions_of_size i)
      ∙ sum_over-zero (compositions i)

  adjoint : numerator (pairing n (product a b) g) [] ≡ numerator (pairing n (tensor a b) (applied coproduct 0 g)) []
  adjoint =
      left_side
      ∙ sum_to-up_to (over_parts at_pair) compositions n
      ∙ sum_to_same n _ _ (λ m. cut_compositions m at_pair)
      ∙ pairs_of_sizes n compositions at_pair too_large
      ∙ sym right_side

-- the law
pub descent_adjointness : (n : ℕ) (a b g : Reading) → Sees word (λ w. descent_composition w) a → Sees word (λ w. descent_composition w) b → IsUpTo n exponents g → AreAdjoint n a b g
descent_adjointness n a b g sa sb sg = adjoint n a b g sa sb sg
