-- The permutations of a size: what each of the list is, their letters, and how they arise as shuffles of smaller ones.
use Rattle.std.proofs.Common.{◌≡◌, ℕ, zero, suc, ◌+◌, ◌<◌, ◌≤◌, Bool, true, false, List, [], ◌∷◌, length, refl, sym, ◌∙◌, ap, arith, inl, inr}
use Rattle.std.specs.Prelude.{nat_eq, nat_le, ◌&&◌}
use Rattle.std.proofs.Math.IntN.{ℤ}
use Rattle.std.specs.List.{AllByRecursion}
use Rattle.std.proofs.lemmas.Bool.{cases_lt}
use Rattle.std.proofs.lemmas.Bool.Decides.{nat_tests}
use Rattle.realisations.specs.Lists.{is_among, one_if}
use Rattle.realisations.specs.Pairings.{permutations, up_to}
use Rattle.realisations.specs.Standardisation.{count_same}
use Rattle.realisations.specs.Words.{raise, shuffles}
use Rattle.realisations.proofs.Every.{every-weaker, every-append, every-flat_map}
use Rattle.basis_representatives.proofs.Counts.{among_none, among_some, one_if-self}
use Rattle.basis_representatives.proofs.Permutations.{HasEachOnce, letters-permutation}
use Rattle.antipode_laws.proofs.IntegerSums.{one_value, sum_over, sum_over_same, sum_over-flat_map}
use Rattle.antipode_laws.proofs.Shuffling.{over, over_nil_right, over_assoc, over-raise}
use Rattle.pairing_laws.proofs.ShuffledWords.{IsOfLetters, shuffles_of_letters}

-- a permutation of n
pub record IsPermutationOf (n : ℕ) (s : List ℕ) : Type 0 where
  pub once : HasEachOnce s
  pub size : length s ≡ n

-- a number that is a letter of it is from 1 to n
within : (n : ℕ) (s : List ℕ) → IsPermutationOf n s → (k : ℕ) → 1 ≤ count_same k s → (1 ≤ k) × (k ≤ n)
within n s p k some = let from = letters-permutation s p.once k some in (from.0, omega (arith, from.1, p.size))

none_past : (n : ℕ) (s : List ℕ) → IsPermutationOf n s → (k : ℕ) → n < k → count_same k s ≡ 0
none_past n s p k past = elim (cases_lt 0 (count_same k s)) [
  | inl some ↦ absurd (omega (arith, (within n s p k some).1, past))
  | inr none ↦ omega (arith, none)
]

-- and each of these is
pub letters_are : (n : ℕ) (s : List ℕ) → IsPermutationOf n s → (k : ℕ) → is_among k s ≡ (nat_le 1 k && nat_le k n)
letters_are n s p k = elim (cases_lt 0 (count_same k s)) [
  | inl some ↦
      let low : nat_le 1 k ≡ true = grind (arith, nat_tests, (within n s p k some).0) in
      let high : nat_le k n ≡ true = grind (arith, nat_tests, (within n s p k some).1) in
      among_some k s some ∙ sym (rw (low, high))
  | inr none ↦ among_none k s (omega (arith, none)) ∙ sym (outside (nat_le 1 k) (nat_le k n) refl refl (omega (arith, none)))
]
  where
    outside : (a b : Bool) → nat_le 1 k ≡ a → nat_le k n ≡ b → count_same k s ≡ 0 → (a && b) ≡ false
    outside true true e f none = let one = p.once.once k (grind (arith, nat_tests, e)) (grind (arith, nat_tests, f, p.size)) in absurd (omega (arith, one, none))
    outside true false e f none = refl
    outside false b e f none = refl

-- n + 1 at each place of a permutation of n
longer_permutation : (n : ℕ) (s w : List ℕ) → IsPermutationOf n s → IsOfLetters s (suc n ∷ []) w → IsPermutationOf (suc n) w
longer_permutation n s w p is = record {
  once = record {
    once = λ k from to. elim (cases_lt n k) [
      | inl past ↦
          let at : k ≡ suc n = omega (arith, to, is.size, p.size, past) in
          omega (arith, is.counts k, none_past n s p k past, ap (λ j. one_if (nat_eq (suc n) j)) at, one_if-self (suc n))
      | inr low ↦
          let other : one_if (nat_eq (suc n) k) ≡ 0 = grind (arith, nat_tests) in
          omega (arith, is.counts k, other, p.once.once k from (omega (arith, low, p.size)))
    ];
  };
  size = omega (arith, is.size, p.size);
}

-- each word of the list is a permutation of n
pub each_permutation : (n : ℕ) → AllByRecursion (IsPermutationOf n) (permutations n)
each_permutation zero = (record { once = record { once = λ k from to. absurd (omega (arith, from, to)) }; size = refl }, tt)
each_permutation (suc n) =
    every-flat_map (IsPermutationOf n) (IsPermutationOf (suc n)) (λ s. shuffles s (suc n ∷ []))
    (λ s p. every-weaker (IsOfLetters s (suc n ∷ [])) (IsPermutationOf (suc n)) (λ w is. longer_permutation n s w p is) (shuffles s (suc n ∷ [])) (shuffles_of_letters s (suc n ∷ [])))
    (permutations n) (each_permutation n)

-- the permutations of sizes up to n
pub record IsPermutationUpTo (n : ℕ) (s : List ℕ) : Type 0 where
  pub once : HasEachOnce s
  pub size : length s ≤ n

pub permutations_up_to : (n : ℕ) → AllByRecursion (IsPermutationUpTo n) (up_to permutations n)
permutations_up_to zero = every-weaker (IsPermutationOf 0) (IsPermutationUpTo 0) (λ s p. record { once = p.once; size = omega (arith, p.size) }) (permutations 0) (each_permutation 0)
permutations_up_to (suc n) =
    every-append (IsPermutationUpTo (suc n)) (up_to permutations n) (permutations (suc n))
    (every-weaker (IsPermutationUpTo n) (IsPermutationUpTo (suc n)) (λ s p. record { once = p.once; size = omega (arith, p.size) }) (up_to permutations n) (permutations_up_to n))
    (every-weaker (IsPermutationOf (suc n)) (IsPermutationUpTo (suc n)) (λ s p. record { once = p.once; size = omega (arith, p.size) }) (permutations (suc n)) (each_permutation (suc n)))

-- the permutations of size i + j are the shuffles of those of size i with those of size j raised by i
pub permutations_split : (j i n : ℕ) → i + j ≡ n → (h : List ℕ → ℤ) →
    sum_over h (permutations n) ≡ sum_over (λ s. sum_over (λ t. over h s (raise i t)) (permutations j)) (permutations i)
permutations_split zero i n e h =
    let same : n ≡ i = omega (arith, e) in
    ap (λ m. sum_over h (permutations m)) same
    ∙ sum_over_same _ _ (λ s. sym (one_value (λ t. over h s (raise i t)) [] ∙ over_nil_right h s)) (permutations i)
permutations_split (suc j) i n e h =
    let size : n ≡ suc (i + j) = omega (arith, e) in
    let last : i + suc j ≡ suc (i + j) = omega arith in
    ap (λ m. sum_over h (permutations m)) size
    ∙ sum_over-flat_map h (λ s. shuffles s (suc (i + j) ∷ [])) (permutations (i + j))
    ∙ permutations_split j i (i + j) refl (λ w. over h w (suc (i + j) ∷ []))
    ∙ sum_over_same _ _
    (λ s. sum_over_same _ _
    (λ t. over_assoc h s (raise i t) (suc (i + j) ∷ [])
    ∙ ap (λ m. over (λ w. over h s w) (raise i t) (m ∷ [])) (sym last)
    ∙ over-raise (λ w. over h s w) i t (suc j ∷ []))
    (permutations j)
    ∙ sym (sum_over-flat_map (λ t. over h s (raise i t)) (λ t. shuffles t (suc j ∷ [])) (permutations j)))
    (permutations i)
