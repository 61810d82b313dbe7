-- The letters of a word up to k and past k: how many there are, and which. Those of packed words and of permutations.
use Rattle.std.proofs.Common.{◌≡◌, ℕ, zero, suc, ◌+◌, ◌-◌, ◌≤◌, Bool, true, false, List, [], ◌∷◌, length, refl, ap, subst, arith, inl, inr}
use Rattle.std.specs.Prelude.{nat_eq, nat_le, nat_lt}
use Rattle.std.proofs.lemmas.Bool.{cases_lt, eqb-true}
use Rattle.std.proofs.lemmas.Bool.Decides.{nat_tests}
use Rattle.std.proofs.lemmas.List.{length-map}
use Rattle.std.proofs.lemmas.List.Filters.{length-filter_both}
use Rattle.realisations.specs.Lists.{one_if, is_among}
use Rattle.realisations.specs.Words.{greatest}
use Rattle.realisations.specs.Standardisation.{count_below, count_same}
use Rattle.realisations.proofs.RisingMaps.{Letters}
use Rattle.basis_representatives.proofs.Counts.{among_none, among_some, count_below-suc, count_within}
use Rattle.basis_representatives.proofs.PackedWords.{HasAllLetters, letters_to_greatest}
use Rattle.basis_representatives.proofs.Permutations.{HasEachOnce, letters-permutation, letters_that_occur}
use Rattle.coproduct_laws.specs.ValueCuts.{letters_up_to, letters_past, lower}
use Rattle.coproduct_laws.proofs.LowAndHigh.{greatest_from_low, letters_of_filter, low_up_to, up_to_low, up_to_high, past_low, past_high}

-- a letter up to k stands among the letters up to k as often as in the word
pub count_up_to : (k i : ℕ) (w : List ℕ) → i ≤ k → count_same i (letters_up_to k w) ≡ count_same i w
count_up_to k i [] h = refl
count_up_to k i (x ∷ w) h = by_test (nat_le x k) refl (count_up_to k i w h)
  where
    by_test : (b : Bool) → nat_le x k ≡ b → count_same i (letters_up_to k w) ≡ count_same i w → count_same i (letters_up_to k (x ∷ w)) ≡ count_same i (x ∷ w)
    by_test true e ih = rw (up_to_low k x w e) (omega (arith, ih))
    by_test false e ih =
        let apart : nat_eq x i ≡ false = grind (arith, nat_tests) in
        rw (up_to_high k x w e, apart) (omega (arith, ih))

-- a letter k + i stands among the letters past k, lowered to i, as often as in the word
pub count_past : (k i : ℕ) (w : List ℕ) → 1 ≤ i → count_same i (lower k (letters_past k w)) ≡ count_same (k + i) w
count_past k i [] h = refl
count_past k i (x ∷ w) h = by_test (nat_le x k) refl (count_past k i w h)
  where
    by_test : (b : Bool) → nat_le x k ≡ b → count_same i (lower k (letters_past k w)) ≡ count_same (k + i) w → count_same i (lower k (letters_past k (x ∷ w))) ≡ count_same (k + i) (x ∷ w)
    by_test true e ih =
        let apart : nat_eq x (k + i) ≡ false = grind (arith, nat_tests) in
        rw (past_low k x w e, apart) (omega (arith, ih))
    by_test false e ih =
        let same : nat_eq (x - k) i ≡ nat_eq x (k + i) = grind (arith, nat_tests) in
        rw (past_high k x w e, same) (omega (arith, ih))

-- there are as many letters up to k as below k + 1
pub length_up_to : (k : ℕ) (w : List ℕ) → length (letters_up_to k w) ≡ count_below (suc k) w
length_up_to k [] = refl
length_up_to k (x ∷ w) = by_test (nat_le x k) refl (length_up_to k w)
  where
    by_test : (b : Bool) → nat_le x k ≡ b → length (letters_up_to k w) ≡ count_below (suc k) w → length (letters_up_to k (x ∷ w)) ≡ count_below (suc k) (x ∷ w)
    by_test true e ih =
        let below : nat_lt x (suc k) ≡ true = grind (arith, nat_tests) in
        rw (up_to_low k x w e, below) (omega (arith, ih))
    by_test false e ih =
        let not_below : nat_lt x (suc k) ≡ false = grind (arith, nat_tests) in
        rw (up_to_high k x w e, not_below) (omega (arith, ih))

-- both words of a cut have all letters
pub length_cut : (k : ℕ) (w : List ℕ) → length (letters_up_to k w) + length (lower k (letters_past k w)) ≡ length w
length_cut k w =
    omega (arith, length-filter_both (λ x. nat_le x k) (λ x. nat_lt k x) (λ x. grind (arith, nat_tests)) w, length-map (letters_past k w) (λ x. x - k))

-- a letter of a word is counted
pub counted : (i : ℕ) (w : List ℕ) → is_among i w ≡ true → 1 ≤ count_same i w
counted i w h = elim (cases_lt 0 (count_same i w)) [
  | inl some ↦ some
  | inr none ↦ (let absent : is_among i w ≡ false = among_none i w (omega (arith, none)) in absurd (cc))
]

-- what each letter has, each number that is counted has
counted_letter : (P : ℕ → Type 0) (i : ℕ) (w : List ℕ) → Letters P w → 1 ≤ count_same i w → P i
counted_letter P i [] h some = absurd (omega (arith, some))
counted_letter P i (x ∷ w) h some = by_test (nat_eq x i) refl (λ k. counted_letter P i w h.1 k)
  where
    by_test : (b : Bool) → nat_eq x i ≡ b → (1 ≤ count_same i w → P i) → P i
    by_test true e ih = subst P (eqb-true x i e) h.0
    by_test false e ih = ih (omega (arith, some, ap one_if e))

-- a letter is at most the greatest
at_most_greatest : (i : ℕ) (w : List ℕ) → 1 ≤ count_same i w → i ≤ greatest w
at_most_greatest i w some = counted_letter (λ x. x ≤ greatest w) i w (letters_to_greatest w (greatest w) (omega arith)) some

-- the letters up to k are letters of the word
pub greatest_up_to_le : (k : ℕ) (w : List ℕ) → greatest (letters_up_to k w) ≤ greatest w
greatest_up_to_le k w =
    greatest_from_low (greatest w) (letters_up_to k w) (letters_of_filter (λ x. x ≤ greatest w) (λ x. nat_le x k) w (letters_to_greatest w (greatest w) (omega arith)))

module _ (w : List ℕ) (packed : HasAllLetters w) where
  -- k is the greatest of the letters up to k of a packed word
  pub greatest_up_to : (k : ℕ) → k ≤ greatest w → greatest (letters_up_to k w) ≡ k
  greatest_up_to zero le = omega (arith, greatest_from_low 0 (letters_up_to 0 w) (low_up_to 0 w))
  greatest_up_to (suc k) le =
      let some : 1 ≤ count_same (suc k) w = counted (suc k) w (packed.each (suc k) (omega arith) le) in
      let here : 1 ≤ count_same (suc k) (letters_up_to (suc k) w) = omega (arith, some, count_up_to (suc k) (suc k) w (omega arith)) in
      omega (arith, greatest_from_low (suc k) (letters_up_to (suc k) w) (low_up_to (suc k) w), at_most_greatest (suc k) (letters_up_to (suc k) w) here)

  -- there are k letters up to k or more
  enough_up_to : (k : ℕ) → k ≤ greatest w → k ≤ count_below (suc k) w
  enough_up_to zero le = omega arith
  enough_up_to (suc k) le =
      omega (arith, enough_up_to k (omega arith), count_below-suc (suc k) w, counted (suc k) w (packed.each (suc k) (omega arith) le))

  -- so its greatest letter is at most its length
  pub greatest-packed : greatest w ≤ length w
  greatest-packed = omega (arith, enough_up_to (greatest w) (omega arith), count_within (λ x. nat_lt x (suc (greatest w))) w)

module _ (s : List ℕ) (permutation : HasEachOnce s) where
  -- the greatest letter of a permutation is its length
  pub greatest-permutation : greatest s ≡ length s
  greatest-permutation = elim (cases_lt 0 (length s)) [
    | inl some ↦ omega (arith, low, at_most_greatest (length s) s (omega (arith, permutation.once (length s) some (omega arith))))
    | inr none ↦ omega (arith, low)
  ]
    where
      low : greatest s ≤ length s
      low = greatest_from_low (length s) s (letters_that_occur (λ x. x ≤ length s) s (λ x occurs. (letters-permutation s permutation x occurs).1))

  -- a permutation is a packed word
  pub packed-permutation : HasAllLetters s
  packed-permutation = record {
    positive = letters_that_occur (λ x. 1 ≤ x) s (λ x occurs. (letters-permutation s permutation x occurs).0);
    each = λ x from to. among_some x s (omega (arith, permutation.once x from (omega (arith, to, greatest-permutation))));
  }
