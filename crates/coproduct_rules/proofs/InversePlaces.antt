-- Where the values of a function on a range stand among those up to k, and among those past k; and the letters of the front and of the back of a permutation.
use Rattle.std.proofs.Common.{◌≡◌, ℕ, zero, suc, ◌+◌, ◌-◌, ◌<◌, ◌≤◌, Bool, true, false, List, [], ◌∷◌, map, take, drop, refl, sym, ◌∙◌, ap, arith, inl, inr}
use Rattle.std.specs.Prelude.{nat_eq, nat_lt, nat_le, not}
use Rattle.std.specs.List.{AllByRecursion, range_with_len}
use Rattle.std.proofs.lemmas.Bool.{cases_lt, eq-eqb}
use Rattle.std.proofs.lemmas.Bool.Decides.{nat_tests}
use Rattle.std.proofs.lemmas.List.{take-append-drop}
use Rattle.realisations.specs.Lists.{one_if}
use Rattle.realisations.specs.Standardisation.{count_below, count_same, place_of}
use Rattle.realisations.proofs.Sums.{sums}
use Rattle.basis_representatives.proofs.Counts.{count_below-suc, count_same-append}
use Rattle.coproduct_laws.specs.ValueCuts.{letters_up_to, letters_past, lower}
use Rattle.coproduct_laws.proofs.LowAndHigh.{AreHigh, up_to_low, up_to_high, past_low, past_high}

-- a letter stands first
place_first : (i x : ℕ) (w : List ℕ) → nat_eq x i ≡ true → place_of i (x ∷ w) ≡ 1
place_first i x w e = rw e refl

-- a letter does not stand first
place_next : (i x : ℕ) (w : List ℕ) → nat_eq x i ≡ false → place_of i (x ∷ w) ≡ suc (place_of i w)
place_next i x w e = rw e refl

-- the first number of the range with value j
module _ (f : ℕ → ℕ) (j i : ℕ) (is : f i ≡ j) where
  -- among the values up to k
  pub place_up_to : (k : ℕ) → j ≤ k → (a m : ℕ) → a ≤ i → i < a + m → ((n : ℕ) → a ≤ n → n < i → f n ≡ j → ⊥)
      → place_of j (letters_up_to k (map f (range_with_len a m))) ≡ suc (sums (λ n. one_if (nat_le (f n) k)) (range_with_len a (i - a)))
  place_up_to k le a zero low high other = absurd (omega arith)
  place_up_to k le a (suc m) low high other = elim (cases_lt a i) [
    | inl later ↦
        (let steps : i - a ≡ suc (i - (a + 1)) = omega arith in
        earlier (nat_le (f a) k) refl later (place_up_to k le (a + 1) m (omega arith) (omega arith) (λ n h h'. other n (omega arith) h'))
        ∙ ap (λ c. suc (sums (λ n. one_if (nat_le (f n) k)) (range_with_len a c))) (sym steps))
    | inr here ↦
        (let same : a ≡ i = omega arith in
        let none : i - a ≡ 0 = omega arith in
        let at : f a ≡ j = ap f same ∙ is in
        let low_a : nat_le (f a) k ≡ true = grind (arith, nat_tests) in
        ap (λ w. place_of j w) (up_to_low k (f a) (map f (range_with_len (a + 1) m)) low_a)
        ∙ place_first j (f a) (letters_up_to k (map f (range_with_len (a + 1) m))) (eq-eqb (f a) j at)
        ∙ ap (λ c. suc (sums (λ n. one_if (nat_le (f n) k)) (range_with_len a c))) (sym none))
  ]
    where
      differ : (x y : ℕ) → (x ≡ y → ⊥) → nat_eq x y ≡ false
      differ x y h = grind (arith, nat_tests)

      earlier : (b : Bool) → nat_le (f a) k ≡ b → a < i
          → place_of j (letters_up_to k (map f (range_with_len (a + 1) m))) ≡ suc (sums (λ n. one_if (nat_le (f n) k)) (range_with_len (a + 1) (i - (a + 1))))
          → place_of j (letters_up_to k (map f (range_with_len a (suc m)))) ≡ suc (sums (λ n. one_if (nat_le (f n) k)) (range_with_len a (suc (i - (a + 1)))))
      earlier true e before ih =
          ap (λ w. place_of j w) (up_to_low k (f a) (map f (range_with_len (a + 1) m)) e)
          ∙ place_next j (f a) (letters_up_to k (map f (range_with_len (a + 1) m))) (differ (f a) j (other a (omega arith) before))
          ∙ omega (arith, ih, ap one_if e)
      earlier false e before ih =
          ap (λ w. place_of j w) (up_to_high k (f a) (map f (range_with_len (a + 1) m)) e)
          ∙ omega (arith, ih, ap one_if e)

  -- and among the values past k, lowered
  pub place_past : (k l : ℕ) → j ≡ k + l → 0 < l → (a m : ℕ) → a ≤ i → i < a + m → ((n : ℕ) → a ≤ n → n < i → f n ≡ j → ⊥)
      → place_of l (lower k (letters_past k (map f (range_with_len a m)))) ≡ suc (sums (λ n. one_if (not (nat_le (f n) k))) (range_with_len a (i - a)))
  place_past k l value some a zero low high other = absurd (omega arith)
  place_past k l value some a (suc m) low high other = elim (cases_lt a i) [
    | inl later ↦
        (let steps : i - a ≡ suc (i - (a + 1)) = omega arith in
        earlier (nat_le (f a) k) refl later (place_past k l value some (a + 1) m (omega arith) (omega arith) (λ n h h'. other n (omega arith) h'))
        ∙ ap (λ c. suc (sums (λ n. one_if (not (nat_le (f n) k))) (range_with_len a c))) (sym steps))
    | inr here ↦
        (let same : a ≡ i = omega arith in
        let none : i - a ≡ 0 = omega arith in
        let at : f a ≡ j = ap f same ∙ is in
        let high_a : nat_le (f a) k ≡ false = grind (arith, nat_tests) in
        let lowered : f a - k ≡ l = omega (arith, at, value) in
        ap (λ w. place_of l (lower k w)) (past_high k (f a) (map f (range_with_len (a + 1) m)) high_a)
        ∙ place_first l (f a - k) (lower k (letters_past k (map f (range_with_len (a + 1) m)))) (eq-eqb (f a - k) l lowered)
        ∙ ap (λ c. suc (sums (λ n. one_if (not (nat_le (f n) k))) (range_with_len a c))) (sym none))
  ]
    where
      differ : nat_le (f a) k ≡ false → (f a ≡ j → ⊥) → nat_eq (f a - k) l ≡ false
      differ e h = grind (arith, nat_tests)

      earlier : (b : Bool) → nat_le (f a) k ≡ b → a < i
          → place_of l (lower k (letters_past k (map f (range_with_len (a + 1) m)))) ≡ suc (sums (λ n. one_if (not (nat_le (f n) k))) (range_with_len (a + 1) (i - (a + 1))))
          → place_of l (lower k (letters_past k (map f (range_with_len a (suc m))))) ≡ suc (sums (λ n. one_if (not (nat_le (f n) k))) (range_with_len a (suc (i - (a + 1)))))
      earlier true e before ih =
          ap (λ w. place_of l (lower k w)) (past_low k (f a) (map f (range_with_len (a + 1) m)) e)
          ∙ omega (arith, ih, ap (λ t. one_if (not t)) e)
      earlier false e before ih =
          ap (λ w. place_of l (lower k w)) (past_high k (f a) (map f (range_with_len (a + 1) m)) e)
          ∙ place_next l (f a - k) (lower k (letters_past k (map f (range_with_len (a + 1) m)))) (differ e (other a (omega arith) before))
          ∙ omega (arith, ih, ap (λ t. one_if (not t)) e)

-- a letter is counted in the front and in the back
pub front_or_back : (k i : ℕ) (w : List ℕ) → count_same i (take k w) + count_same i (drop k w) ≡ count_same i w
front_or_back k i w = sym (count_same-append i (take k w) (drop k w)) ∙ ap (λ v. count_same i v) (take-append-drop k w)

-- a letter that stands once is in the front where its place is up to k
pub count_front : (k i : ℕ) (w : List ℕ) → count_same i w ≡ 1 → count_same i (take k w) ≡ one_if (nat_le (place_of i w) k)
count_front k i [] one = absurd (omega arith)
count_front zero i (x ∷ w) one = by_test (nat_eq x i) refl
  where
    by_test : (b : Bool) → nat_eq x i ≡ b → 0 ≡ one_if (nat_le (place_of i (x ∷ w)) 0)
    by_test true e = rw (place_first i x w e) refl
    by_test false e = let past : nat_le (suc (place_of i w)) 0 ≡ false = grind (arith, nat_tests) in rw (place_next i x w e, past) refl
count_front (suc k) i (x ∷ w) one = by_test (nat_eq x i) refl (λ h. count_front k i w h)
  where
    by_test : (b : Bool) → nat_eq x i ≡ b → (count_same i w ≡ 1 → count_same i (take k w) ≡ one_if (nat_le (place_of i w) k))
        → count_same i (take (suc k) (x ∷ w)) ≡ one_if (nat_le (place_of i (x ∷ w)) (suc k))
    by_test true e ih =
        let within : nat_le 1 (suc k) ≡ true = grind (arith, nat_tests) in
        ap (λ t. one_if t + count_same i (take k w)) e ∙ omega (arith, one, ap one_if e, front_or_back k i w) ∙ sym (ap one_if (ap (λ p. nat_le p (suc k)) (place_first i x w e) ∙ within))
    by_test false e ih =
        let same : nat_le (suc (place_of i w)) (suc k) ≡ nat_le (place_of i w) k = grind (arith, nat_tests) in
        ap (λ t. one_if t + count_same i (take k w)) e ∙ omega (arith, ih (omega (arith, one, ap one_if e))) ∙ sym (ap one_if (ap (λ p. nat_le p (suc k)) (place_next i x w e) ∙ same))

-- the letters below a number, counted value by value
pub count_below_range : (g : ℕ → ℕ) (a c : ℕ) (w : List ℕ) → ((n : ℕ) → a ≤ n → n < a + c → g n ≡ count_same n w) → sums g (range_with_len a c) + count_below a w ≡ count_below (a + c) w
count_below_range g a zero w h = let e : a ≡ a + 0 = omega arith in omega (arith, ap (λ n. count_below n w) e)
count_below_range g a (suc c) w h =
    let e : a + 1 + c ≡ a + suc c = omega arith in
    let next : suc a ≡ a + 1 = omega arith in
    omega (arith, h a (omega arith) (omega arith), count_below-suc a w, ap (λ n. count_below n w) next, count_below_range g (a + 1) c w (λ n p q. h n (omega arith) (omega arith)), ap (λ n. count_below n w) e)

-- no positive letter is below 1
pub none_below_one : (w : List ℕ) → AreHigh 0 w → count_below 1 w ≡ 0
none_below_one [] h = refl
none_below_one (x ∷ w) h = let e : nat_lt x 1 ≡ false = grind (arith, nat_tests, h.0) in rw e (omega (arith, none_below_one w h.1))

-- what holds of each letter holds of those in the front and in the back
pub high_part : (P : ℕ → Type 0) (k : ℕ) (w : List ℕ) → AllByRecursion P w → AllByRecursion P (take k w) × AllByRecursion P (drop k w)
high_part P zero w h = (tt, h)
high_part P (suc k) [] h = (tt, tt)
high_part P (suc k) (x ∷ w) h = let rest = high_part P k w h.1 in ((h.0, rest.0), rest.1)
