-- Permutations: a word of n letters that has each of 1 to n once. The standardisation of a word is one, and a permutation is its own standardisation.
use Rattle.std.proofs.Common.{◌≡◌, ℕ, zero, suc, ◌+◌, ◌<◌, ◌≤◌, true, false, List, [], ◌∷◌, ◌++◌, map, length, refl, sym, ◌∙◌, arith, inl, inr}
use Rattle.std.specs.Prelude.{IsTrue, nat_eq, nat_lt, if◌then◌else◌}
use Rattle.std.proofs.lemmas.Bool.{cases_lt, eqb-true, eq-eqb}
use Rattle.std.proofs.lemmas.Bool.Decides.{nat_tests}
use Rattle.std.proofs.lemmas.List.{length-map}
use Rattle.realisations.specs.Lists.{one_if}
use Rattle.realisations.specs.Standardisation.{count_below, count_same, standardise_after, standardise}
use Rattle.realisations.specs.IndexKinds.{is_permutation}
use Rattle.realisations.proofs.RisingMaps.{Letters}
use Rattle.basis_representatives.proofs.Counts.{count_below-suc, count_to, count_to-append, count_within, counts_across, counts_up, one_if-self}
use Rattle.basis_representatives.proofs.Ranges.{list_all_range, list_all_range-from}
use Rattle.basis_representatives.proofs.RowByRow.{before}
use Rattle.basis_representatives.proofs.SameLists.{cons_same}
use Rattle.basis_representatives.proofs.SameOrder.{length-standardise}

-- each of 1 to the length stands in the word once
pub record HasEachOnce (s : List ℕ) : Type 0 where
  pub once : (i : ℕ) → 1 ≤ i → i ≤ length s → count_same i s ≡ 1

-- the test says so
pub each_once : (s : List ℕ) → IsTrue (is_permutation s) → HasEachOnce s
each_once s h = record {
  once = λ i from to. eqb-true (count_same i s) 1 (list_all_range (λ j. nat_eq (count_same j s) 1) 1 (length s) h i from (omega arith));
}

-- and holds where it is so
pub permutation_from : (s : List ℕ) → HasEachOnce s → IsTrue (is_permutation s)
permutation_from s h =
    list_all_range-from (λ j. nat_eq (count_same j s) 1) 1 (length s) (λ i from to. eq-eqb (count_same i s) 1 (h.once i from (omega arith)))

module _ (s : List ℕ) (h : HasEachOnce s) where
  below : (m : ℕ) → m ≤ length s → count_below (suc m) s ≡ count_below 1 s + m
  below zero le = omega arith
  below (suc m) le = omega (arith, count_below-suc (suc m) s, h.once (suc m) (omega arith) le, below m (omega arith))

  -- no letter is 0
  count_below_one : count_below 1 s ≡ 0
  count_below_one = omega (arith, below (length s) (omega arith), count_within (λ y. nat_lt y (suc (length s))) s)

  -- below the letter x + 1 there are x
  pub count_below-permutation : (x : ℕ) → x ≤ length s → count_below (suc x) s ≡ x
  count_below-permutation x le = omega (arith, below x le, count_below_one)

  -- no letter stands twice
  pub count_same-permutation : (k : ℕ) → count_same k s ≤ 1
  count_same-permutation zero = omega (arith, count_below_one, count_below-suc 0 s)
  count_same-permutation (suc k) = elim (cases_lt k (length s)) [
    | inl le ↦ omega (arith, h.once (suc k) (omega arith) (omega arith))
    | inr past ↦
        omega (arith, count_below-suc (suc k) s, count_below-permutation (length s) (omega arith), counts_up (suc (length s)) (suc k) s (omega arith), count_within (λ y. nat_lt y (suc (suc k))) s)
  ]

-- what each number that occurs has, each letter has
pub letters_that_occur : (P : ℕ → Type 0) (w : List ℕ) → ((x : ℕ) → 1 ≤ count_same x w → P x) → Letters P w
letters_that_occur P [] h = tt
letters_that_occur P (x ∷ w) h = (h x (omega (arith, one_if-self x)), letters_that_occur P w (λ y occurs. h y (omega (arith, occurs))))

-- each letter of a permutation is from 1 to its length
pub letters-permutation : (s : List ℕ) → HasEachOnce s → (x : ℕ) → 1 ≤ count_same x s → (1 ≤ x) × (x ≤ length s)
letters-permutation s h zero occurs = absurd (omega (arith, occurs, count_below_one s h, count_below-suc 0 s))
letters-permutation s h (suc x) occurs = (
  omega arith,
  (elim (cases_lt x (length s)) [
    | inl le ↦ omega arith
    | inr past ↦ absurd (omega (arith, occurs, count_below-suc (suc x) s, count_below-permutation s h (length s) (omega arith), counts_up (suc (length s)) (suc x) s (omega arith), count_within (λ y. nat_lt y (suc (suc x))) s))
  ]),
)

-- each letter is 1 more than the number of smaller letters of both words, and none of it stands before
own_standard : (before w : List ℕ) → ((x : ℕ) → 1 ≤ count_same x w → suc (count_below x before + count_below x w) ≡ x)
    → ((x : ℕ) → count_same x before + count_same x w ≤ 1) → standardise_after before w ≡ w
own_standard before [] h once = refl
own_standard before (x ∷ w) h once =
    let self = one_if-self x in
    let not_below : one_if (nat_lt x x) ≡ 0 = grind (arith, nat_tests) in
    let first : suc (count_below x before + count_same x before + count_below x w) ≡ x = omega (arith, h x (omega (arith, self)), once x, self, not_below) in
    let rest : standardise_after (x ∷ before) w ≡ w =
    own_standard (x ∷ before) w (λ y occurs. omega (arith, h y (omega (arith, occurs)))) (λ y. omega (arith, once y)) in
    cons_same first rest

-- a permutation is its own standardisation
pub standardise-permutation : (s : List ℕ) → HasEachOnce s → standardise s ≡ s
standardise-permutation s h = own_standard [] s (λ x occurs. is_rank x (letters-permutation s h x occurs)) (λ x. omega (arith, count_same-permutation s h x))
  where
    is_rank : (x : ℕ) → (1 ≤ x) × (x ≤ length s) → suc (0 + count_below x s) ≡ x
    is_rank zero within = absurd (omega (arith, within.0))
    is_rank (suc x) within = omega (arith, count_below-permutation s h x (omega (arith, within.1)))

-- make room for the letter k: each letter from k on is 1 more
abbrev pub make_room : ℕ → ℕ → ℕ
make_room k x = if nat_lt x k then x else suc x

make_room-below : (k x : ℕ) → x < k → make_room k x ≡ x
make_room-below k x h = let e : nat_lt x k ≡ true = grind (arith, nat_tests) in rw e refl

make_room-from : (k x : ℕ) → k ≤ x → make_room k x ≡ suc x
make_room-from k x h = let e : nat_lt x k ≡ false = grind (arith, nat_tests) in rw e refl

room_letter : (x y : ℕ) (before w : List ℕ) (k n m : ℕ) → k ≡ suc (count_below x before + (one_if (nat_lt y x) + count_below x w))
    → n ≡ suc (count_to y before + count_below y w) → m ≡ suc (count_to y (before ++ (x ∷ [])) + count_below y w) → m ≡ make_room k n
room_letter x y before w k n m hk hn hm = elim (cases_lt y x) [
  | inl less ↦
      let one : one_if (nat_lt y x) ≡ 1 = grind (arith, nat_tests) in
      let none : one_if (nat_lt x y) + one_if (nat_eq x y) ≡ 0 = grind (arith, nat_tests) in
      let under : n < k = omega (arith, hk, hn, one, counts_across y x before less, counts_up y x w (omega arith)) in
      omega (arith, hm, hn, none, count_to-append y before (x ∷ [])) ∙ sym (make_room-below k n under)
  | inr over ↦
      let none : one_if (nat_lt y x) ≡ 0 = grind (arith, nat_tests) in
      let one : one_if (nat_lt x y) + one_if (nat_eq x y) ≡ 1 = grind (arith, nat_tests) in
      let past : k ≤ n = omega (arith, hk, hn, none, counts_up x y before over, counts_up x y w over, counts_up y y before (omega arith)) in
      omega (arith, hm, hn, one, count_to-append y before (x ∷ [])) ∙ sym (make_room-from k n past)
]

standardise_after-room : (x : ℕ) (before w : List ℕ) (k : ℕ) → k ≡ suc (count_below x before + count_below x w)
    → standardise_after (before ++ (x ∷ [])) w ≡ map (make_room k) (standardise_after before w)
standardise_after-room x before [] k h = refl
standardise_after-room x before (y ∷ w) k h =
    cons_same (room_letter x y before w k _ _ h refl refl) (standardise_after-room x (y ∷ before) w k (omega (arith, h)))

-- the standardisation of a word with a first letter x: k, 1 more than the number of letters below x, and then that of the word with room made for k
pub standardise-cons : (x : ℕ) (w : List ℕ) → standardise (x ∷ w) ≡ suc (count_below x w) ∷ map (make_room (suc (count_below x w))) (standardise w)
standardise-cons x w =
    let first : suc (0 + 0 + count_below x w) ≡ suc (count_below x w) = omega arith in
    cons_same first (standardise_after-room x [] w (suc (count_below x w)) (omega arith))

-- how often letters stand once there is room
count_room-below : (k i : ℕ) → i < k → (s : List ℕ) → count_same i (map (make_room k) s) ≡ count_same i s
count_room-below k i h [] = refl
count_room-below k i h (x ∷ s) =
    let one : one_if (nat_eq (make_room k x) i) ≡ one_if (nat_eq x i) = elim (cases_lt x k) [
      | inl less ↦ rw (make_room-below k x less) refl
      | inr over ↦ (let e = make_room-from k x over in let a : one_if (nat_eq (suc x) i) ≡ 0 = grind (arith, nat_tests) in let b : one_if (nat_eq x i) ≡ 0 = grind (arith, nat_tests) in rw e (omega (arith, a, b)))
    ] in
    omega (arith, one, count_room-below k i h s)

count_room-at : (k : ℕ) (s : List ℕ) → count_same k (map (make_room k) s) ≡ 0
count_room-at k [] = refl
count_room-at k (x ∷ s) =
    let none : one_if (nat_eq (make_room k x) k) ≡ 0 = elim (cases_lt x k) [
      | inl less ↦ (let e = make_room-below k x less in let a : one_if (nat_eq x k) ≡ 0 = grind (arith, nat_tests) in rw e a)
      | inr over ↦ (let e = make_room-from k x over in let a : one_if (nat_eq (suc x) k) ≡ 0 = grind (arith, nat_tests) in rw e a)
    ] in
    omega (arith, none, count_room-at k s)

count_room-above : (k i : ℕ) → k ≤ i → (s : List ℕ) → count_same (suc i) (map (make_room k) s) ≡ count_same i s
count_room-above k i h [] = refl
count_room-above k i h (x ∷ s) =
    let one : one_if (nat_eq (make_room k x) (suc i)) ≡ one_if (nat_eq x i) = elim (cases_lt x k) [
      | inl less ↦ (let e = make_room-below k x less in let a : one_if (nat_eq x (suc i)) ≡ 0 = grind (arith, nat_tests) in let b : one_if (nat_eq x i) ≡ 0 = grind (arith, nat_tests) in rw e (omega (arith, a, b)))
      | inr over ↦ (let e = make_room-from k x over in let a : one_if (nat_eq (suc x) (suc i)) ≡ one_if (nat_eq x i) = grind (arith, nat_tests) in rw e a)
    ] in
    omega (arith, one, count_room-above k i h s)

-- a permutation with room made for a new first letter
room-permutation : (k : ℕ) (s : List ℕ) → k ≤ length s → HasEachOnce s → HasEachOnce (suc k ∷ map (make_room (suc k)) s)
room-permutation k s le h = record { once = λ i from to. once i from (omega (arith, to, length-map s (make_room (suc k)))) }
  where
    once : (i : ℕ) → 1 ≤ i → i ≤ suc (length s) → one_if (nat_eq (suc k) i) + count_same i (map (make_room (suc k)) s) ≡ 1
    once zero from to = absurd (omega arith)
    once (suc i) from to = elim (cases_lt i k) [
      | inl less ↦ (let none : one_if (nat_eq (suc k) (suc i)) ≡ 0 = grind (arith, nat_tests) in omega (arith, none, count_room-below (suc k) (suc i) (omega arith) s, h.once (suc i) (omega arith) (omega arith)))
      | inr over ↦ elim (cases_lt k i) [
        | inl more ↦ (let none : one_if (nat_eq (suc k) (suc i)) ≡ 0 = grind (arith, nat_tests) in omega (arith, none, count_room-above (suc k) i (omega arith) s, h.once i (omega arith) (omega arith)))
        | inr under ↦ (let same : i ≡ k = omega arith in rw same (omega (arith, one_if-self (suc k), count_room-at (suc k) s)))
      ]
    ]

-- the standardisation of a word is a permutation
pub permutation-standardise : (w : List ℕ) → HasEachOnce (standardise w)
permutation-standardise [] = record { once = λ i from to. absurd (omega arith) }
permutation-standardise (x ∷ w) =
    rw (standardise-cons x w) (room-permutation (count_below x w) (standardise w) (omega (arith, count_within (λ y. nat_lt y x) w, length-standardise w)) (permutation-standardise w))
