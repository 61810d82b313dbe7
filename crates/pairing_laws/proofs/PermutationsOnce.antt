-- Each permutation stands once in the list of all permutations of sizes up to n, and sums over this list do not change when each is inverted.
use Rattle.std.proofs.Common.{◌≡◌, ℕ, zero, suc, ◌+◌, ◌-◌, ◌*◌, ◌≤◌, Bool, true, false, List, [], ◌∷◌, length, refl, sym, ◌∙◌, ap, arith, inl, inr}
use Rattle.std.specs.Prelude.{nat_eq}
use Rattle.std.proofs.Math.IntN.{ℤ, pos, ◌*ℤ◌}
use Rattle.std.proofs.lemmas.Bool.{cases_eq, eqb-true}
use Rattle.std.proofs.lemmas.Bool.Decides.{nat_tests}
use Rattle.std.proofs.lemmas.List.{length-map}
use Rattle.realisations.specs.Lists.{same_list, one_if}
use Rattle.realisations.specs.Pairings.{permutations, up_to}
use Rattle.realisations.specs.Standardisation.{count_same, inverse}
use Rattle.realisations.specs.Words.{shuffles}
use Rattle.realisations.proofs.Sums.{sums-flat_map, sums_none, sums_same}
use Rattle.basis_representatives.proofs.Inverses.{inverse-inverse, length-inverse, permutation-inverse}
use Rattle.basis_representatives.proofs.Permutations.{HasEachOnce, count_below-permutation, letters-permutation, letters_that_occur}
use Rattle.basis_representatives.proofs.SameLists.{same_list-self, same_list-sym, same_list-both, same_list-false}
use Rattle.coproduct_laws.specs.ValueCuts.{letters_up_to, letters_past, lower}
use Rattle.coproduct_laws.proofs.CutLetters.{count_up_to, count_past, length_up_to, length_cut}
use Rattle.coproduct_laws.proofs.LowAndHigh.{AreLow, AreHigh, high_past}
use Rattle.coproduct_laws.proofs.ShuffleCounts.{shuffle_count}
use Rattle.coproduct_rules.proofs.CompositionSums.{sums_on}
use Rattle.antipode_laws.proofs.IntegerSums.{sum_over, sum_over-swap}
use Rattle.pairing_laws.proofs.EachOnce.{same, times_among, only_one}
use Rattle.pairing_laws.proofs.PermutationsOfSize.{IsPermutationOf, each_permutation, IsPermutationUpTo, permutations_up_to}
use Rattle.antipode_laws.proofs.ReadAtPoints.{sum_over_every}

-- no letter of it is past n
low_letters : (n : ℕ) (s : List ℕ) → IsPermutationOf n s → AreLow n s
low_letters n s p = letters_that_occur (λ x. x ≤ n) s (λ x there. omega (arith, (letters-permutation s p.once x there).1, p.size))

-- a word of one letter past n, which is 1 once it is lowered by n
one_letter : (n : ℕ) (v : List ℕ) → AreHigh n v → length v ≡ 1 → count_same 1 (lower n v) ≡ 1 → v ≡ suc n ∷ []
one_letter n [] high long h = absurd (omega (arith, long))
one_letter n (x ∷ []) high long h = by_test (nat_eq (x - n) 1) refl
  where
    by_test : (b : Bool) → nat_eq (x - n) 1 ≡ b → x ∷ [] ≡ suc n ∷ []
    by_test true e = let lowered = eqb-true (x - n) 1 e in let is : x ≡ suc n = omega (arith, lowered, high.0) in ap (λ k. k ∷ []) is
    by_test false e = absurd (omega (arith, h, ap one_if e))
one_letter n (x ∷ y ∷ v) high long h = absurd (omega (arith, long))

module _ (n : ℕ) (u : List ℕ) (p : IsPermutationOf (suc n) u) where
  -- without the greatest letter
  small : IsPermutationOf n (letters_up_to n u)
  small =
      let long : length (letters_up_to n u) ≡ n = length_up_to n u ∙ count_below-permutation u p.once n (omega (arith, p.size)) in
      record {
        once = record { once = λ k from to. count_up_to n k u (omega (arith, to, long)) ∙ p.once.once k from (omega (arith, to, long, p.size)) };
        size = long;
      }

  great : letters_past n u ≡ suc n ∷ []
  great =
      let next : n + 1 ≡ suc n = omega arith in
      one_letter n (letters_past n u) (high_past n u) (omega (arith, length-map (letters_past n u) (λ x. x - n), length_cut n u, small.size, p.size))
      (count_past n 1 u (omega arith) ∙ ap (λ k. count_same k u) next ∙ p.once.once (suc n) (omega arith) (omega (arith, p.size)))

-- a permutation of n is listed once
once_of_size : (n : ℕ) (u : List ℕ) → IsPermutationOf n u → times_among u (permutations n) ≡ 1
once_of_size zero [] p = refl
once_of_size zero (x ∷ u) p = absurd (omega (arith, p.size))
once_of_size (suc n) u p =
    sums-flat_map (λ w. one_if (same_list u w)) (λ s. shuffles s (suc n ∷ [])) (permutations n)
    ∙ sums_on (IsPermutationOf n) (λ s. times_among u (shuffles s (suc n ∷ []))) (λ s. one_if (same_list (letters_up_to n u) s)) (permutations n) (each_permutation n)
    (λ s q.
    sums_same (λ w. one_if (same_list u w)) (λ w. one_if (same_list w u)) (λ w. ap one_if (same_list-sym u w)) (shuffles s (suc n ∷ []))
    ∙ shuffle_count n s (suc n ∷ []) (low_letters n s q) (omega arith, tt) u
    ∙ ap (λ v. one_if (same_list s (letters_up_to n u)) * one_if (same_list (suc n ∷ []) v)) (great n u p)
    ∙ ap (λ b. one_if (same_list s (letters_up_to n u)) * one_if b) (same_list-self (suc n ∷ []))
    ∙ omega (arith, ap one_if (same_list-sym s (letters_up_to n u))))
    ∙ once_of_size n (letters_up_to n u) (small n u p)

-- and in no other list
permutation_once : (u : List ℕ) → HasEachOnce u → (k : ℕ) → times_among u (permutations k) ≡ one_if (nat_eq (length u) k)
permutation_once u h k = elim (cases_eq (length u) k) [
  | inl here ↦
      let yes : nat_eq (length u) k ≡ true = grind (arith, nat_tests, here) in
      once_of_size k u (record { once = h; size = here }) ∙ sym (ap one_if yes)
  | inr apart ↦
      let no : nat_eq (length u) k ≡ false = grind (arith, nat_tests, apart) in
      sums_on (IsPermutationOf k) (λ s. one_if (same_list u s)) (λ s. 0) (permutations k) (each_permutation k)
      (λ s p. ap one_if (same_list-false (λ v. length v) u s (λ e. apart (e ∙ p.size))))
      ∙ sums_none (λ s. 0) (λ s. refl) (permutations k)
      ∙ sym (ap one_if no)
]

-- a sum over all permutations of which only one counts
pub only_permutation : (n : ℕ) (s : List ℕ) → IsPermutationUpTo n s → (f : List ℕ → ℤ) → sum_over (λ t. same s t *ℤ f t) (up_to permutations n) ≡ f s
only_permutation n s p f = only_one permutations s (length s) (permutation_once s p.once) n p.size f

-- the inverse of a permutation of a size up to n
pub inverted : (n : ℕ) (s : List ℕ) → IsPermutationUpTo n s → IsPermutationUpTo n (inverse s)
inverted n s p = record { once = permutation-inverse s p.once; size = omega (arith, length-inverse s, p.size) }

-- the inverse is another one where that one's inverse is the permutation
pub same_inverse : (s t : List ℕ) → HasEachOnce s → HasEachOnce t → same_list (inverse s) t ≡ same_list s (inverse t)
same_inverse s t hs ht =
    same_list-both (inverse s) t s (inverse t) (λ e. sym (inverse-inverse s hs) ∙ ap inverse e) (λ e. ap inverse e ∙ inverse-inverse t ht)

-- the sum over the inverses is the sum
pub over_inverses : (n : ℕ) (f : List ℕ → ℤ) → sum_over (λ s. f (inverse s)) (up_to permutations n) ≡ sum_over f (up_to permutations n)
over_inverses n f =
    sum_over_every (IsPermutationUpTo n) (λ s. f (inverse s)) (λ s. sum_over (λ t. same s (inverse t) *ℤ f t) (up_to permutations n))
    (λ s p.
    sym (only_permutation n (inverse s) (inverted n s p) f)
    ∙ sum_over_every (IsPermutationUpTo n) _ _ (λ t q. ap (λ b. pos (one_if b) *ℤ f t) (same_inverse s t p.once q.once)) (up_to permutations n) (permutations_up_to n))
    (up_to permutations n) (permutations_up_to n)
    ∙ sum_over-swap (λ s t. same s (inverse t) *ℤ f t) (up_to permutations n) (up_to permutations n)
    ∙ sum_over_every (IsPermutationUpTo n) _ f
    (λ t q.
    sum_over_every (IsPermutationUpTo n) _ (λ s. same (inverse t) s *ℤ f t) (λ s p. ap (λ b. pos (one_if b) *ℤ f t) (same_list-sym s (inverse t))) (up_to permutations n) (permutations_up_to n)
    ∙ only_permutation n (inverse t) (inverted n t q) (λ s. f t))
    (up_to permutations n) (permutations_up_to n)
