-- A function of compositions is, at each one, the sum of its signed sums over the refinements of the finer ones; and the signed sum over the refinements of J of 1 for each that is coarser than I or equal to it is 1 where I is J, and else 0.
use Rattle.std.proofs.Common.{◌≡◌, ℕ, zero, suc, false, List, [], ◌∷◌, refl, sym, ◌∙◌, ap, arith}
use Rattle.std.specs.Prelude.{nat_eq, ◌&&◌}
use Rattle.std.proofs.Math.IntN.{ℤ, pos, neg_ℤ, ◌+ℤ◌, ◌*ℤ◌, *ℤ-zero, *ℤ-one, one}
use Rattle.std.specs.List.{sum}
use Rattle.std.proofs.lemmas.Int.{ints}
use Rattle.std.proofs.lemmas.Bool.Decides.{nat_tests}
use Rattle.hopf_num.proofs.Ring.{+ℤ-*ℤ}
use Rattle.realisations.specs.Lists.{same_list, one_if}
use Rattle.realisations.specs.Descents.{is_finer, longer_first}
use Rattle.realisations.specs.IndexKinds.{IsComposition}
use Rattle.realisations.specs.Pairings.{longer_compositions, compositions}
use Rattle.antipode_laws.proofs.IntegerSums.{sum_over, sum_over-flat_map}
use Rattle.coproduct_rules.proofs.DegreeCuts.{sum-first}
use Rattle.pairing_laws.proofs.CompositionsOfSize.{IsCompositionOf, compositions_of_size}
use Rattle.pairing_laws.proofs.EachOnce.{same}
use Rattle.pairing_laws.proofs.FinerCompositions.{not_finer_than_none, none_not_finer, finer_one_one, finer_longer_one, finer_one_longer, finer_longer_longer}
use Rattle.pairing_laws.proofs.IntegerProducts.{one_times}
use Rattle.pairing_laws.proofs.Refinements.{signed_refinements, signed_refinements_same, signed_refinements-linear}
use Rattle.antipode_laws.proofs.ReadAtPoints.{sum_over_every}

-- 1 where the first composition is finer than the second or equal to it, and else 0
abbrev pub finer : List ℕ → List ℕ → ℤ
finer q i = pos (one_if (is_finer q i))

-- a difference of functions
difference : (j : List ℕ) (g h : List ℕ → ℤ) → signed_refinements j (λ i. g i +ℤ neg_ℤ (h i)) +ℤ signed_refinements j h ≡ signed_refinements j g
difference j g h =
    let sums = signed_refinements-linear j (pos 1) (λ i. g i +ℤ neg_ℤ (h i)) h in
    let same : signed_refinements j (λ i. pos 1 *ℤ (g i +ℤ neg_ℤ (h i)) +ℤ h i) ≡ signed_refinements j g =
    signed_refinements_same j _ g (λ i hi. omega (arith, ints, one_times (g i +ℤ neg_ℤ (h i)))) in
    omega (arith, ints, sums, same, one_times (signed_refinements j (λ i. g i +ℤ neg_ℤ (h i))))

-- the terms of the compositions with 1 more, at one with a first part 1
terms_at_one : (f : List ℕ → ℤ) (i : List ℕ) → IsComposition i → (q : List ℕ) → IsCompositionOf (sum i) q →
    sum_over (λ k. signed_refinements k f *ℤ finer k (1 ∷ i)) (longer_compositions q) ≡ signed_refinements q (λ j. f (1 ∷ j)) *ℤ finer q i
terms_at_one f i h [] is = omega (arith, ints, ap (λ b. f (1 ∷ []) *ℤ pos (one_if b)) (finer_one_one [] i tt h))
terms_at_one f i h (zero ∷ q) is = absurd (omega (arith, is.composition.0))
terms_at_one f i h (suc k ∷ q) is =
    let m = signed_refinements (suc k ∷ q) (λ j. f (1 ∷ j)) in
    let n = signed_refinements (suc (suc k) ∷ q) f in
    omega (
      arith,
      ints,
      ap (λ b. m *ℤ pos (one_if b)) (finer_one_one (suc k ∷ q) i is.composition h),
      ap (λ b. n *ℤ pos (one_if b)) (finer_longer_one (suc k) q i is.composition h),
      *ℤ-zero n,
    )

-- and at one whose first part is one larger
terms_at_longer : (f : List ℕ → ℤ) (m : ℕ) (i : List ℕ) → IsComposition (suc m ∷ i) → (q : List ℕ) → IsCompositionOf (sum (suc m ∷ i)) q →
    sum_over (λ k. signed_refinements k f *ℤ finer k (suc (suc m) ∷ i)) (longer_compositions q) ≡ signed_refinements q (λ j. f (longer_first j)) *ℤ finer q (suc m ∷ i)
terms_at_longer f m i h [] is = absurd (omega (arith, is.size, sum-first (suc m) i))
terms_at_longer f m i h (zero ∷ q) is = absurd (omega (arith, is.composition.0))
terms_at_longer f m i h (suc k ∷ q) is =
    let x = signed_refinements (suc k ∷ q) (λ j. f (1 ∷ j)) in
    let y = signed_refinements (suc (suc k) ∷ q) f in
    let z = finer (suc k ∷ q) (suc m ∷ i) in
    omega (
      arith,
      ints,
      ap (λ b. x *ℤ pos (one_if b)) (finer_one_longer (suc k ∷ q) (suc m) i is.composition h),
      ap (λ b. y *ℤ pos (one_if b)) (finer_longer_longer (suc k) q (suc m) i is.composition h),
      ap (λ u. u *ℤ z) (difference (suc k ∷ q) (λ j. f (longer_first j)) (λ j. f (1 ∷ j))),
      +ℤ-*ℤ y x z,
    )

expansion_part : (n : ℕ) (i : List ℕ) → IsComposition (n ∷ i) → ((f : List ℕ → ℤ) → f i ≡ sum_over (λ q. signed_refinements q f *ℤ finer q i) (compositions (sum i)))
    → (f : List ℕ → ℤ) → f (n ∷ i) ≡ sum_over (λ q. signed_refinements q f *ℤ finer q (n ∷ i)) (compositions (sum (n ∷ i)))
expansion_part zero i h ih f = absurd (omega (arith, h.0))
expansion_part (suc zero) i h ih f =
    let size : sum (1 ∷ i) ≡ suc (sum i) = omega (arith, sum-first 1 i) in
    ih (λ j. f (1 ∷ j))
    ∙ sym (ap (λ k. sum_over (λ q. signed_refinements q f *ℤ finer q (1 ∷ i)) (compositions k)) size
    ∙ sum_over-flat_map (λ q. signed_refinements q f *ℤ finer q (1 ∷ i)) (λ q. longer_compositions q) (compositions (sum i))
    ∙ sum_over_every (IsCompositionOf (sum i)) _ _ (terms_at_one f i h.1) (compositions (sum i)) (compositions_of_size (sum i)))
expansion_part (suc (suc n)) i h ih f =
    let size : sum (suc (suc n) ∷ i) ≡ suc (sum (suc n ∷ i)) = omega (arith, sum-first (suc n) i, sum-first (suc (suc n)) i) in
    expansion_part (suc n) i (omega arith, h.1) ih (λ j. f (longer_first j))
    ∙ sym (ap (λ k. sum_over (λ q. signed_refinements q f *ℤ finer q (suc (suc n) ∷ i)) (compositions k)) size
    ∙ sum_over-flat_map (λ q. signed_refinements q f *ℤ finer q (suc (suc n) ∷ i)) (λ q. longer_compositions q) (compositions (sum (suc n ∷ i)))
    ∙ sum_over_every (IsCompositionOf (sum (suc n ∷ i))) _ _ (terms_at_longer f n i (omega arith, h.1)) (compositions (sum (suc n ∷ i))) (compositions_of_size (sum (suc n ∷ i))))

-- a function of compositions at one of them: the sum of its signed sums over the refinements of each finer one
pub refinement_expansion : (i : List ℕ) → IsComposition i → (f : List ℕ → ℤ) → f i ≡ sum_over (λ q. signed_refinements q f *ℤ finer q i) (compositions (sum i))
unfolding one
refinement_expansion [] h f = omega (arith, ints, *ℤ-one (f []))
refinement_expansion (n ∷ i) h f = expansion_part n i h (refinement_expansion i h.1) f

-- the other way round

nothing_refined : (j : List ℕ) → signed_refinements j (λ i. pos 0) ≡ pos 0
nothing_refined j =
    let twice = signed_refinements-linear j (pos 1) (λ i. pos 0) (λ i. pos 0) in
    omega (arith, ints, twice, one_times (signed_refinements j (λ i. pos 0)))

-- at compositions with 1 more

one_at_longer : (q : List ℕ) → IsComposition q → (i : List ℕ) → IsComposition i → finer (1 ∷ q) (longer_first i) ≡ finer q i
one_at_longer q h [] hi = ap (λ b. pos (one_if b)) (finer_one_one q [] h tt)
one_at_longer q h (n ∷ i) hi = ap (λ b. pos (one_if b)) (finer_one_longer q n i h hi)

longer_at_longer : (k : ℕ) (q : List ℕ) → IsComposition (k ∷ q) → (i : List ℕ) → IsComposition i → finer (suc k ∷ q) (longer_first i) ≡ finer (k ∷ q) i
longer_at_longer k q h [] hi = ap (λ b. pos (one_if b)) (finer_longer_one k q [] h tt ∙ sym (not_finer_than_none k q h))
longer_at_longer k q h (n ∷ i) hi = ap (λ b. pos (one_if b)) (finer_longer_longer k q n i h hi)

-- of compositions with a part
dual_part : (k : ℕ) (q : List ℕ) → IsComposition (suc k ∷ q)
    → ((j : List ℕ) → IsComposition j → signed_refinements j (finer q) ≡ same q j)
    → (n : ℕ) (j : List ℕ) → IsComposition (suc n ∷ j) → signed_refinements (suc n ∷ j) (finer (suc k ∷ q)) ≡ same (suc k ∷ q) (suc n ∷ j)
dual_part zero q h ih zero j hj = signed_refinements_same j _ _ (λ i hi. ap (λ b. pos (one_if b)) (finer_one_one q i h.1 hi)) ∙ ih j hj.1
dual_part zero q h ih (suc n) j hj =
    signed_refinements_same (suc n ∷ j) _ (λ i. pos 0) (λ i hi. omega (arith, ints, ap (λ b. pos (one_if b)) (finer_one_one q i h.1 hi), one_at_longer q h.1 i hi))
    ∙ nothing_refined (suc n ∷ j)
    ∙ sym (ap (λ b. pos (one_if (b && same_list q j))) differ)
  where
    differ : nat_eq 1 (suc (suc n)) ≡ false
    differ = grind (arith, nat_tests)
dual_part (suc k) q h ih zero j hj =
    signed_refinements_same j _ (λ i. pos 0) (λ i hi. ap (λ b. pos (one_if b)) (finer_longer_one (suc k) q i (omega arith, h.1) hi))
    ∙ nothing_refined j
    ∙ sym (ap (λ b. pos (one_if (b && same_list q j))) differ)
  where
    differ : nat_eq (suc (suc k)) 1 ≡ false
    differ = grind (arith, nat_tests)
dual_part (suc k) q h ih (suc n) j hj =
    signed_refinements_same (suc n ∷ j) _ (finer (suc k ∷ q))
    (λ i hi. omega (arith, ints, ap (λ b. pos (one_if b)) (finer_longer_one (suc k) q i (omega arith, h.1) hi), longer_at_longer (suc k) q (omega arith, h.1) i hi))
    ∙ dual_part k q (omega arith, h.1) ih n j (omega arith, hj.1)
    ∙ ap (λ b. pos (one_if (b && same_list q j))) same_suc
  where
    same_suc : nat_eq (suc k) (suc n) ≡ nat_eq (suc (suc k)) (suc (suc n))
    same_suc = grind (arith, nat_tests)

-- the empty composition
empty_dual : (n : ℕ) (j : List ℕ) → signed_refinements (suc n ∷ j) (finer []) ≡ pos 0
empty_dual zero j = signed_refinements_same j _ (λ i. pos 0) (λ i hi. ap (λ b. pos (one_if b)) (none_not_finer 1 i (omega arith, hi))) ∙ nothing_refined j
empty_dual (suc n) j =
    signed_refinements_same (suc n ∷ j) _ (λ i. pos 0) (λ i hi. omega (arith, ints, ap (λ b. pos (one_if b)) (none_not_finer 1 i (omega arith, hi)), at_longer i hi))
    ∙ nothing_refined (suc n ∷ j)
  where
    at_longer : (i : List ℕ) → IsComposition i → finer [] (longer_first i) ≡ pos 0
    at_longer [] h = ap (λ b. pos (one_if b)) (none_not_finer 1 [] (omega arith, tt))
    at_longer (n ∷ i) h = ap (λ b. pos (one_if b)) (none_not_finer (suc n) i (omega arith, h.1))

-- the signed sum over the refinements of J that are coarser than I or equal to it
pub refinement_dual : (q : List ℕ) → IsComposition q → (j : List ℕ) → IsComposition j → signed_refinements j (finer q) ≡ same q j
refinement_dual [] h [] hj = refl
refinement_dual [] h (zero ∷ j) hj = absurd (omega (arith, hj.0))
refinement_dual [] h (suc n ∷ j) hj = empty_dual n j
refinement_dual (zero ∷ q) h j hj = absurd (omega (arith, h.0))
refinement_dual (suc k ∷ q) h [] hj = ap (λ b. pos (one_if b)) (not_finer_than_none (suc k) q h)
refinement_dual (suc k ∷ q) h (zero ∷ j) hj = absurd (omega (arith, hj.0))
refinement_dual (suc k ∷ q) h (suc n ∷ j) hj = dual_part k q h (refinement_dual q h.1) n j hj
