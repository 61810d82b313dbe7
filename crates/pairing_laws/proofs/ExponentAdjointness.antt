-- Products over QSym and coproducts over NCSF are adjoint under the pairing of exponents with words.
use Rattle.std.proofs.Common.{◌≡◌, ◌≢◌, ℕ, zero, suc, ◌+◌, List, [], ◌∷◌, length, refl, sym, ◌∙◌, ap, arith, inl, inr}
use Rattle.std.proofs.Math.IntN.{ℤ, pos, ◌+ℤ◌, ◌*ℤ◌, *ℤ_comm, *ℤ-zero}
use Rattle.std.specs.List.{sum}
use Rattle.std.proofs.lemmas.Int.{ints}
use Rattle.std.proofs.lemmas.Bool.{cases_lt}
use Rattle.hopf_num.proofs.Ring.{*ℤ_assoc}
use Rattle.realisations.specs.Descents.{descent_composition, word_of_composition}
use Rattle.realisations.specs.Exponents.{exponent_cuts, without_zeros}
use Rattle.realisations.specs.IndexKinds.{IsComposition}
use Rattle.realisations.specs.Pairings.{compositions, up_to}
use Rattle.realisations.specs.Points.{word, exponents}
use Rattle.realisations.specs.Words.{shifted_shuffles}
use Rattle.realisations.specs.Readings.{Reading, applied, product, tensor, pairing, coproduct, numerator}
use Rattle.pairing_laws.proofs.FourSums.{four_sums}
use Rattle.pairing_laws.proofs.IntegerProducts.{one_times}
use Rattle.pairing_laws.specs.Adjoints.{AreAdjoint}
use Rattle.pairing_laws.specs.Sight.{Sees, IsUpTo}
use Rattle.antipode_laws.proofs.IntegerSums.{sum_over, sum_over_same, sum_over-swap, sum_over-zero, times-sum_over, sum_over-times}
use Rattle.antipode_laws.proofs.ReadAtPoints.{sum_over_every}
use Rattle.coproduct_rules.proofs.DegreeCuts.{sum-first}
use Rattle.antipode_laws.proofs.ExponentCuts.{over_cuts, over_cuts_same}
use Rattle.pairing_laws.proofs.CompositionsOfSize.{IsCompositionOf, compositions_of_size}
use Rattle.pairing_laws.proofs.EachOnce.{IsCompositionUpTo, compositions_up_to_size, same, only_composition}
use Rattle.pairing_laws.proofs.Refinements.{signed_refinements, signed_refinements_same, signed_refinements-linear}
use Rattle.basis_representatives.proofs.BlockWords.{descent_composition-word_of_composition, IsComposition-without_zeros}
use Rattle.basis_representatives.proofs.Steps.{IsComposition-descent_composition}
use Rattle.realisations.proofs.DescentCompositions.{descends}
use Rattle.realisations.proofs.PointsOfReadings.{word_composed}
use Rattle.pairing_laws.proofs.DescentAdjointness.{signed_refinements-times}
use Rattle.pairing_laws.proofs.CompleteElements.{complete, complete_size, complete_expansion, complete_dual, complete_cuts}
use Rattle.pairing_laws.proofs.TriangleSums.{sum_to-up_to, sum_to_none, sum_to_only}
use Rattle.antipode_laws.proofs.IgnoredZeros.{without_zeros-twice}
use Rattle.antipode_laws.proofs.RankOneReadings.{coproduct_is, product_is}
use Rattle.pairing_laws.proofs.PairedReadings.{tensor_is, kinds_of_tensor, kinds_of_coproduct}
use Rattle.pairing_laws.proofs.PairingsWithExponents.{pairing_exponents_word, pairing_two_exponents}

-- the degree does not see zeros
pub sum-without_zeros : (p : List ℕ) → sum (without_zeros p) ≡ sum p
sum-without_zeros [] = refl
sum-without_zeros (zero ∷ p) = omega (arith, sum-first 0 p, sum-without_zeros p)
sum-without_zeros (suc n ∷ p) = omega (arith, sum-first (suc n) p, sum-first (suc n) (without_zeros p), sum-without_zeros p)

-- a sum inside a signed sum
signed_refinements-sum_over : {X : Type 0} (j : List ℕ) (h : X → List ℕ → ℤ) (xs : List X) → signed_refinements j (λ i. sum_over (λ x. h x i) xs) ≡ sum_over (λ x. signed_refinements j (h x)) xs
signed_refinements-sum_over j h [] =
    let twice = signed_refinements-linear j (pos 1) (λ i. pos 0) (λ i. pos 0) in
    omega (arith, ints, twice, one_times (signed_refinements j (λ i. pos 0)))
signed_refinements-sum_over j h (x ∷ xs) =
    signed_refinements_same j _ (λ i. pos 1 *ℤ h x i +ℤ sum_over (λ y. h y i) xs) (λ i hi. ap (λ z. z +ℤ sum_over (λ y. h y i) xs) (sym (one_times (h x i))))
    ∙ signed_refinements-linear j (pos 1) (h x) (λ i. sum_over (λ y. h y i) xs)
    ∙ (λ i. one_times (signed_refinements j (h x)) i +ℤ signed_refinements-sum_over j h xs i)

-- a factor, and two factors at each of two points
regroup : (e x y a b : ℤ) → (e *ℤ (x *ℤ y)) *ℤ (a *ℤ b) ≡ e *ℤ ((x *ℤ a) *ℤ (y *ℤ b))
regroup e x y a b =
    sym (*ℤ_assoc e (x *ℤ y) (a *ℤ b))
    ∙ ap (λ z. e *ℤ z) (sym (*ℤ_assoc x y (a *ℤ b)) ∙ ap (λ z. x *ℤ z) (*ℤ_assoc y a b ∙ ap (λ z. z *ℤ b) (*ℤ_comm y a) ∙ sym (*ℤ_assoc a y b)) ∙ *ℤ_assoc x a (y *ℤ b))

module _ (n : ℕ) (a b g : Reading) (sa : Sees exponents (λ p. without_zeros p) a) (sb : Sees exponents (λ p. without_zeros p) b) (sg : Sees word (λ w. descent_composition w) g) (up : IsUpTo n word g) where
  -- the readings at points of one component
  abbrev first : List ℕ → ℤ
  first p = numerator a (p ∷ [])

  abbrev second : List ℕ → ℤ
  second p = numerator b (p ∷ [])

  abbrev third : List ℕ → ℤ
  third w = numerator g (w ∷ [])

  -- the coefficient of the complete function of a composition in g
  abbrev coefficient : List ℕ → ℤ
  coefficient q = signed_refinements q (λ i. third (word_of_composition i))

  abbrev sizes : List (List ℕ)
  sizes = up_to compositions n

  -- complete functions of another size do not count
  other_size : (w : List ℕ) (k : ℕ) → k ≢ length w → sum_over (λ q. coefficient q *ℤ complete q w) (compositions k) ≡ pos 0
  other_size w k apart =
      sum_over_every (IsCompositionOf k) _ (λ q. pos 0)
      (λ q is. ap (λ z. coefficient q *ℤ z) (complete_size q w (λ e. apart (sym (e ∙ is.size)))) ∙ *ℤ-zero (coefficient q))
      (compositions k) (compositions_of_size k)
      ∙ sum_over-zero (compositions k)

  expanded : (w : List ℕ) → third w ≡ sum_over (λ q. coefficient q *ℤ complete q w) sizes
  expanded w =
      elim (cases_lt n (length w)) [
        | inl long ↦
            up.past w long
            ∙ sym (sum_to-up_to (λ q. coefficient q *ℤ complete q w) compositions n
            ∙ sum_to_none n (λ k. sum_over (λ q. coefficient q *ℤ complete q w) (compositions k)) (λ k le. other_size w k (λ e. omega (arith, e, le, long))))
        | inr short ↦
            sg.same w (word_of_composition (descent_composition w)) (sym (descent_composition-word_of_composition (descent_composition w) (IsComposition-descent_composition w)))
            ∙ complete_expansion (λ i. third (word_of_composition i)) w
            ∙ ap (λ k. sum_over (λ q. coefficient q *ℤ complete q w) (compositions k)) (descends w).0
            ∙ sym (sum_to-up_to (λ q. coefficient q *ℤ complete q w) compositions n
            ∙ sum_to_only n (length w) (λ k. sum_over (λ q. coefficient q *ℤ complete q w) (compositions k)) short (other_size w))
      ]

  -- the coproduct of g at the words of two compositions
  split : (u v : List ℕ) → numerator (applied coproduct 0 g) (word_of_composition u ∷ word_of_composition v ∷ [])
      ≡ sum_over (λ q. sum_over (λ (c : List ℕ × List ℕ). coefficient q *ℤ (complete (without_zeros c.0) (word_of_composition u) *ℤ complete (without_zeros c.1) (word_of_composition v))) (exponent_cuts q)) sizes
  split u v =
      coproduct_is word g sg.kinds (word_of_composition u) (word_of_composition v)
      ∙ sum_over_same _ _ expanded (shifted_shuffles (word_of_composition u) (word_of_composition v))
      ∙ sum_over-swap (λ w q. coefficient q *ℤ complete q w) (shifted_shuffles (word_of_composition u) (word_of_composition v)) sizes
      ∙ sum_over_every (IsCompositionUpTo n) _ _
      (λ q is.
      sym (times-sum_over (coefficient q) (complete q) (shifted_shuffles (word_of_composition u) (word_of_composition v)))
      ∙ ap (λ z. coefficient q *ℤ z) (complete_cuts q is.composition (word_of_composition u) (word_of_composition v) (word_composed u) (word_composed v))
      ∙ times-sum_over (coefficient q) (λ (c : List ℕ × List ℕ). complete (without_zeros c.0) (word_of_composition u) *ℤ complete (without_zeros c.1) (word_of_composition v)) (exponent_cuts q))
      sizes (compositions_up_to_size n)

  -- and its signed sums
  signed_split : (j k : List ℕ) → IsComposition j → IsComposition k →
      signed_refinements j (λ u. signed_refinements k (λ v. numerator (applied coproduct 0 g) (word_of_composition u ∷ word_of_composition v ∷ [])))
      ≡ sum_over (λ q. sum_over (λ (c : List ℕ × List ℕ). coefficient q *ℤ (same (without_zeros c.0) j *ℤ same (without_zeros c.1) k)) (exponent_cuts q)) sizes
  signed_split j k hj hk =
      signed_refinements_same j _
      (λ u. sum_over (λ q. sum_over (λ (c : List ℕ × List ℕ). coefficient q *ℤ (complete (without_zeros c.0) (word_of_composition u) *ℤ same (without_zeros c.1) k)) (exponent_cuts q)) sizes)
      (λ u hu.
      signed_refinements_same k _ _ (λ v hv. split u v)
      ∙ signed_refinements-sum_over k (λ q v. sum_over (λ (c : List ℕ × List ℕ). coefficient q *ℤ (complete (without_zeros c.0) (word_of_composition u) *ℤ complete (without_zeros c.1) (word_of_composition v))) (exponent_cuts q)) sizes
      ∙ sum_over_same _ _
      (λ q.
      signed_refinements-sum_over k (λ (c : List ℕ × List ℕ) v. coefficient q *ℤ (complete (without_zeros c.0) (word_of_composition u) *ℤ complete (without_zeros c.1) (word_of_composition v))) (exponent_cuts q)
      ∙ sum_over_same _ _
      (λ (c : List ℕ × List ℕ).
      signed_refinements-times k (coefficient q) (λ v. complete (without_zeros c.0) (word_of_composition u) *ℤ complete (without_zeros c.1) (word_of_composition v))
      ∙ ap (λ z. coefficient q *ℤ z)
      (signed_refinements-times k (complete (without_zeros c.0) (word_of_composition u)) (λ v. complete (without_zeros c.1) (word_of_composition v))
      ∙ ap (λ z. complete (without_zeros c.0) (word_of_composition u) *ℤ z) (complete_dual (without_zeros c.1) (IsComposition-without_zeros c.1) k hk)))
      (exponent_cuts q))
      sizes)
      ∙ signed_refinements-sum_over j (λ q u. sum_over (λ (c : List ℕ × List ℕ). coefficient q *ℤ (complete (without_zeros c.0) (word_of_composition u) *ℤ same (without_zeros c.1) k)) (exponent_cuts q)) sizes
      ∙ sum_over_same _ _
      (λ q.
      signed_refinements-sum_over j (λ (c : List ℕ × List ℕ) u. coefficient q *ℤ (complete (without_zeros c.0) (word_of_composition u) *ℤ same (without_zeros c.1) k)) (exponent_cuts q)
      ∙ sum_over_same _ _
      (λ (c : List ℕ × List ℕ).
      signed_refinements-times j (coefficient q) (λ u. complete (without_zeros c.0) (word_of_composition u) *ℤ same (without_zeros c.1) k)
      ∙ ap (λ z. coefficient q *ℤ z)
      (signed_refinements_same j _ (λ u. same (without_zeros c.1) k *ℤ complete (without_zeros c.0) (word_of_composition u)) (λ u hu. *ℤ_comm (complete (without_zeros c.0) (word_of_composition u)) (same (without_zeros c.1) k))
      ∙ signed_refinements-times j (same (without_zeros c.1) k) (λ u. complete (without_zeros c.0) (word_of_composition u))
      ∙ *ℤ_comm (same (without_zeros c.1) k) (signed_refinements j (λ u. complete (without_zeros c.0) (word_of_composition u)))
      ∙ ap (λ z. z *ℤ same (without_zeros c.1) k) (complete_dual (without_zeros c.0) (IsComposition-without_zeros c.0) j hj)))
      (exponent_cuts q))
      sizes

  -- the sum of both factors over the cuts of a composition
  abbrev cut_product : List ℕ → ℤ
  cut_product q = coefficient q *ℤ over_cuts q (λ p r. first (without_zeros p) *ℤ second (without_zeros r))

  left_side : numerator (pairing n (product a b) g) [] ≡ sum_over cut_product sizes
  left_side =
      pairing_exponents_word n g (product a b) sa.kinds sg.kinds
      ∙ sum_over_same _ _
      (λ q. ap (λ z. coefficient q *ℤ z)
      (product_is exponents a sa.kinds b q
      ∙ sum_over_same _ _ (λ (c : List ℕ × List ℕ). λ i. sa.same c.0 (without_zeros c.0) (sym (without_zeros-twice c.0)) i *ℤ sb.same c.1 (without_zeros c.1) (sym (without_zeros-twice c.1)) i) (exponent_cuts q)))
      sizes

  -- of the pairs of compositions only the two parts of the cut count
  at_cut : (q : List ℕ) → IsCompositionUpTo n q → (p r : List ℕ) → sum p + sum r ≡ sum q →
      sum_over (λ j. sum_over (λ k. (same (without_zeros p) j *ℤ first j) *ℤ (same (without_zeros r) k *ℤ second k)) sizes) sizes ≡ first (without_zeros p) *ℤ second (without_zeros r)
  at_cut q is p r e =
      sum_over_same _ _ (λ j. sym (times-sum_over (same (without_zeros p) j *ℤ first j) (λ k. same (without_zeros r) k *ℤ second k) sizes)) sizes
      ∙ sym (sum_over-times (λ j. same (without_zeros p) j *ℤ first j) (sum_over (λ k. same (without_zeros r) k *ℤ second k) sizes) sizes)
      ∙ (λ i. only_composition n (without_zeros p) (record { composition = IsComposition-without_zeros p; size = omega (arith, sum-without_zeros p, e, is.size) }) first i
      *ℤ only_composition n (without_zeros r) (record { composition = IsComposition-without_zeros r; size = omega (arith, sum-without_zeros r, e, is.size) }) second i)

  right_side : numerator (pairing n (tensor a b) (applied coproduct 0 g)) [] ≡ sum_over cut_product sizes
  right_side =
      pairing_two_exponents n (applied coproduct 0 g) (tensor a b) (kinds_of_tensor a b exponents exponents sa.kinds sb.kinds) (kinds_of_coproduct g word sg.kinds)
      ∙ sum_over_every (IsCompositionUpTo n) _ _
      (λ j hj. sum_over_every (IsCompositionUpTo n) _
      (λ k. sum_over (λ q. sum_over (λ (c : List ℕ × List ℕ). coefficient q *ℤ ((same (without_zeros c.0) j *ℤ first j) *ℤ (same (without_zeros c.1) k *ℤ second k))) (exponent_cuts q)) sizes)
      (λ k hk.
      (λ i. signed_split j k hj.composition hk.composition i *ℤ tensor_is a b exponents sa.kinds j k i)
      ∙ sum_over-times (λ q. sum_over (λ (c : List ℕ × List ℕ). coefficient q *ℤ (same (without_zeros c.0) j *ℤ same (without_zeros c.1) k)) (exponent_cuts q)) (first j *ℤ second k) sizes
      ∙ sum_over_same _ _
      (λ q. sum_over-times (λ (c : List ℕ × List ℕ). coefficient q *ℤ (same (without_zeros c.0) j *ℤ same (without_zeros c.1) k)) (first j *ℤ second k) (exponent_cuts q)
      ∙ sum_over_same _ _ (λ (c : List ℕ × List ℕ). regroup (coefficient q) (same (without_zeros c.0) j) (same (without_zeros c.1) k) (first j) (second k)) (exponent_cuts q))
      sizes)
      sizes (compositions_up_to_size n))
      sizes (compositions_up_to_size n)
      ∙ four_sums (λ j k q (c : List ℕ × List ℕ). coefficient q *ℤ ((same (without_zeros c.0) j *ℤ first j) *ℤ (same (without_zeros c.1) k *ℤ second k))) sizes sizes sizes (λ q. exponent_cuts q)
      ∙ sum_over_every (IsCompositionUpTo n) _ _
      (λ q is.
      over_cuts_same q _ (λ p r. coefficient q *ℤ (first (without_zeros p) *ℤ second (without_zeros r)))
      (λ p r e.
      sum_over_same _ _ (λ j. sym (times-sum_over (coefficient q) (λ k. (same (without_zeros p) j *ℤ first j) *ℤ (same (without_zeros r) k *ℤ second k)) sizes)) sizes
      ∙ sym (times-sum_over (coefficient q) (λ j. sum_over (λ k. (same (without_zeros p) j *ℤ first j) *ℤ (same (without_zeros r) k *ℤ second k)) sizes) sizes)
      ∙ ap (λ z. coefficient q *ℤ z) (at_cut q is p r e))
      ∙ sym (times-sum_over (coefficient q) (λ (c : List ℕ × List ℕ). first (without_zeros c.0) *ℤ second (without_zeros c.1)) (exponent_cuts q)))
      sizes (compositions_up_to_size n)

-- the law
pub exponent_adjointness : (n : ℕ) (a b g : Reading) → Sees exponents (λ p. without_zeros p) a → Sees exponents (λ p. without_zeros p) b → Sees word (λ w. descent_composition w) g → IsUpTo n word g → AreAdjoint n a b g
exponent_adjointness n a b g sa sb sg up = left_side n a b g sa sb sg up ∙ sym (right_side n a b g sa sb sg up)
