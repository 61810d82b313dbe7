-- The rule of the product of FQSym.F: the shifted shuffles.
use Rattle.std.proofs.Common.{◌≡◌, ℕ, ◌+◌, ◌-◌, ◌*◌, ◌≤◌, ◌^◌, Bool, true, false, IsTrue, List, [], ◌∷◌, length, drop, refl, sym, ◌∙◌, ap, subst, arith, inl, inr}
use Rattle.std.specs.Prelude.{nat_eq, nat_le, ◌&&◌}
use Rattle.std.proofs.Math.Nat.{pow-le-pow_right}
use Rattle.std.proofs.lemmas.Bool.{cases_lt}
use Rattle.std.proofs.lemmas.Bool.Decides.{nat_tests}
use Rattle.std.proofs.lemmas.List.{length-map}
use Rattle.basis_names.specs.declared.bases.BasisId.TheVariants.{FqsymF}
use Rattle.realisations.specs.IndexKinds.{is_permutation}
use Rattle.realisations.specs.Lists.{same_list, one_if}
use Rattle.realisations.specs.Standardisation.{count_same}
use Rattle.realisations.specs.Words.{raise, shuffles}
use Rattle.realisations.proofs.Every.{every-weaker}
use Rattle.realisations.proofs.RisingMaps.{Letters}
use Rattle.basis_representatives.proofs.Letters.{Letters-weaker}
use Rattle.basis_representatives.proofs.Permutations.{HasEachOnce, each_once, permutation_from, letters-permutation}
use Rattle.basis_representatives.proofs.SameLists.{cons_same, one_if-and, same_list-sym}
use Rattle.coproduct_laws.specs.ValueCuts.{letters_up_to, letters_past, lower}
use Rattle.coproduct_laws.proofs.CutLetters.{greatest-permutation}
use Rattle.coproduct_laws.proofs.LowAndHigh.{high_past, high_raised, same_list-raise}
use Rattle.coproduct_laws.proofs.ShuffleCounts.{shuffle_count}
use Rattle.word_laws.specs.AddedCodes.{times_in}
use Rattle.product_laws.specs.Classes.{IsByClasses}
use Rattle.product_laws.specs.Laws.{ShuffleLaw}
use Rattle.product_laws.specs.Products.{IsProductRule}
use Rattle.product_laws.proofs.ClassProducts.{indices_read}
use Rattle.product_laws.proofs.CutRules.{letters_of_permutation}
use Rattle.product_laws.proofs.DistinctWords.{times_in-turned}
use Rattle.product_laws.proofs.EveryShuffle.{CountsAsBoth, counts_of_shuffles, few_shuffles}
use Rattle.product_laws.proofs.SortedPlaces.{sorted_places, permutation-sorted_places, length-sorted_places, front_places, back_places}

-- lowering undoes raising
lower-raise : (k : ℕ) (w : List ℕ) → lower k (raise k w) ≡ w
lower-raise k [] = refl
lower-raise k (x ∷ w) = cons_same (omega arith) (lower-raise k w)

-- the places past n, lowered
pub lowered_places : (n : ℕ) (p : List ℕ) → lower n (letters_past n (sorted_places p)) ≡ sorted_places (drop n p)
lowered_places n p = ap (lower n) (back_places n p) ∙ lower-raise n (sorted_places (drop n p))

-- FQSym.F is by classes: the inverse of the standardisation of a word
pub by_inverses : IsByClasses FqsymF (λ p. sorted_places p) (λ n c. letters_up_to n c) (λ n c. lower n (letters_past n c))
by_inverses = record {
  words = refl;
  occurs_at = λ code p. refl;
  degree = λ p. length-sorted_places p;
  index = λ p point. permutation_from (sorted_places p) (permutation-sorted_places p);
  fronts = λ n p point. front_places n p;
  backs = λ n p point. lowered_places n p;
}

-- a word is a shuffle of s and t raised past n once where its letters up to n are s, and its others, lowered, are t
times_in-shuffled : (n : ℕ) (s t : List ℕ) → Letters (λ x. x ≤ n) s → Letters (λ x. 1 ≤ x) t → (w : List ℕ)
    → times_in w (shuffles s (raise n t)) ≡ one_if (same_list (letters_up_to n w) s && same_list (lower n (letters_past n w)) t)
times_in-shuffled n s t low positive w =
    sym (times_in-turned w (shuffles s (raise n t)))
    ∙ shuffle_count n s (raise n t) low (high_raised n t positive) w
    ∙ (λ i. one_if (same_list-sym s (letters_up_to n w) i) * one_if ((same_list-raise n t (letters_past n w) (high_past n w) ∙ same_list-sym t (lower n (letters_past n w))) i))
    ∙ sym (one_if-and (same_list (letters_up_to n w) s) (same_list (lower n (letters_past n w)) t))

-- a number that is out of its range is no letter of a permutation
absent : (s : List ℕ) → HasEachOnce s → (i : ℕ) → ((1 ≤ i) × (i ≤ length s) → ⊥) → count_same i s ≡ 0
absent s h i out = elim (cases_lt 0 (count_same i s)) [
  | inl some ↦ absurd (out (letters-permutation s h i some))
  | inr none ↦ omega (arith, none)
]

-- each shifted shuffle is a permutation of the whole size

counted-raise : (m i : ℕ) (t : List ℕ) → count_same i (raise m t) ≡ one_if (nat_le m i) * count_same (i - m) t
counted-raise m i [] = omega arith
counted-raise m i (y ∷ t) = omega (arith, same_letter m i y, counted-raise m i t)
  where
    same_letter : (m i y : ℕ) → one_if (nat_eq (m + y) i) ≡ one_if (nat_le m i) * one_if (nat_eq y (i - m))
    same_letter m i y = by_test (nat_le m i) refl
      where
        by_test : (b : Bool) → nat_le m i ≡ b → one_if (nat_eq (m + y) i) ≡ one_if b * one_if (nat_eq y (i - m))
        by_test true e = let moved : nat_eq (m + y) i ≡ nat_eq y (i - m) = grind (arith, nat_tests, e) in omega (arith, ap one_if moved)
        by_test false e = let apart : nat_eq (m + y) i ≡ false = grind (arith, nat_tests, e) in omega (arith, ap one_if apart)

module _ (s t : List ℕ) (hs : HasEachOnce s) (ht : HasEachOnce t) where
  both_once : (i : ℕ) → 1 ≤ i → i ≤ length s + length t → count_same i s + count_same i (raise (length s) t) ≡ 1
  both_once i low high = elim (cases_lt (length s) i) [
    | inl past ↦
        let none : count_same i s ≡ 0 = absent s hs i (λ r. omega (arith, r.1, past)) in
        let one : count_same (i - length s) t ≡ 1 = ht.once (i - length s) (omega (arith, past)) (omega (arith, high)) in
        let up : one_if (nat_le (length s) i) ≡ 1 = grind (arith, nat_tests, past) in
        omega (arith, none, counted-raise (length s) i t, ap (λ k. k * count_same (i - length s) t) up, one)
    | inr up_to ↦
        let none : count_same (i - length s) t ≡ 0 = absent t ht (i - length s) (λ r. omega (arith, r.0, up_to)) in
        omega (arith, hs.once i low (omega (arith, up_to)), counted-raise (length s) i t, ap (λ k. one_if (nat_le (length s) i) * k) none)
  ]

  shuffled_permutation : (w : List ℕ) → CountsAsBoth s (raise (length s) t) w → IsTrue (is_permutation w) × (length w ≡ length s + length t)
  shuffled_permutation w h =
      let size : length w ≡ length s + length t = omega (arith, h.1, length-map t (λ x. length s + x)) in (
        permutation_from w (record { once = λ i low high. h.0 (λ y. nat_eq y i) ∙ both_once i low (omega (arith, high, size)) }),
        size,
      )

-- F of s times F of t is the sum of F over the shifted shuffles
pub shuffle_rule : ShuffleLaw
shuffle_rule s t hs ht = subst (λ n. IsProductRule FqsymF s t (shuffles s (raise n t))) (sym (greatest-permutation s (each_once s hs))) record {
  reads = λ p point. indices_read FqsymF (λ p. sorted_places p) (λ n c. letters_up_to n c) (λ n c. lower n (letters_past n c)) by_inverses s t (shuffles s (raise (length s) t))
      (λ w is. times_in-shuffled (length s) s t
      (Letters-weaker (λ x. (1 ≤ x) × (x ≤ length s)) (λ x. x ≤ length s) (λ x h. h.1) s (letters_of_permutation s hs))
      (Letters-weaker (λ x. (1 ≤ x) × (x ≤ length t)) (λ x. 1 ≤ x) (λ x h. h.0) t (letters_of_permutation t ht)) w) p point;
  indices = every-weaker (CountsAsBoth s (raise (length s) t)) _ (shuffled_permutation s t (each_once s hs) (each_once t ht))
      (shuffles s (raise (length s) t)) (counts_of_shuffles s (raise (length s) t));
  few =
      let bound : 2 ^ (length s + length t) ≤ 2 ^ (5 * (length s + length t)) = pow-le-pow_right {n = 2} (omega arith) {i = length s + length t} {j = 5 * (length s + length t)} (omega arith) in
      omega (arith, few_shuffles (length s + length t) s (raise (length s) t) (omega (arith, length-map t (λ x. length s + x))), bound);
}
