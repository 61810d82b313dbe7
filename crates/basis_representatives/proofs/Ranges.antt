-- Ranges of numbers, the values of a function on them, and blocks of equal letters.
use Rattle.std.proofs.Common.{◌≡◌, ◌≢◌, ℕ, zero, suc, ◌+◌, ◌<◌, ◌≤◌, Bool, true, false, List, [], ◌∷◌, map, length, replicate, get_or, refl, ◌∙◌, ap, arith, inl, inr}
use Rattle.std.specs.Prelude.{IsTrue, nat_eq}
use Rattle.std.specs.List.{list_all, range_with_len}
use Rattle.std.proofs.lemmas.Bool.{cases_lt, eq-eqb, ne_eqb, and_parts, and_from}
use Rattle.std.proofs.lemmas.Bool.Decides.{nat_tests}
use Rattle.realisations.specs.Lists.{one_if}
use Rattle.realisations.specs.Standardisation.{count_same, place_of}
use Rattle.basis_representatives.proofs.SameLists.{cons_same}

-- a test of each number of a range
pub list_all_range : (test : ℕ → Bool) (a n : ℕ) → IsTrue (list_all test (range_with_len a n)) → (i : ℕ) → a ≤ i → i < a + n → test i ≡ true
list_all_range test a zero h i from to = absurd (omega arith)
list_all_range test a (suc n) h i from to =
    let parts = and_parts (test a) (list_all test (range_with_len (a + 1) n)) h in
    elim (cases_lt a i) [
      | inl past ↦ list_all_range test (a + 1) n parts.1 i (omega arith) (omega arith)
      | inr first ↦ (let same : i ≡ a = omega arith in ap test same ∙ parts.0)
    ]

-- and from a test of each number
pub list_all_range-from : (test : ℕ → Bool) (a n : ℕ) → ((i : ℕ) → a ≤ i → i < a + n → test i ≡ true) → IsTrue (list_all test (range_with_len a n))
list_all_range-from test a zero h = refl
list_all_range-from test a (suc n) h =
    and_from (test a) (list_all test (range_with_len (a + 1) n)) (h a (omega arith) (omega arith))
    (list_all_range-from test (a + 1) n (λ i from to. h i (omega arith) (omega arith)))

-- a list of the values of a function on a range
pub map_range_is : (f : ℕ → ℕ) (a : ℕ) (s : List ℕ) → ((i : ℕ) → i < length s → f (a + i) ≡ get_or s i 0) → map f (range_with_len a (length s)) ≡ s
map_range_is f a [] h = refl
map_range_is f a (x ∷ s) h =
    let here : a ≡ a + 0 = omega arith in
    cons_same (ap f here ∙ h 0 (omega arith))
    (map_range_is f (a + 1) s (λ i lt. let next : (a + 1) + i ≡ a + suc i = omega arith in ap f next ∙ h (suc i) (omega arith)))

-- the place of a value that comes first at a + d
pub place_of-map_range : (f : ℕ → ℕ) (a n j d : ℕ) → d < n → f (a + d) ≡ j → ((e : ℕ) → e < d → f (a + e) ≢ j) → place_of j (map f (range_with_len a n)) ≡ suc d
place_of-map_range f a zero j d lt is not = absurd (omega arith)
place_of-map_range f a (suc n) j zero lt is not =
    let here : a ≡ a + 0 = omega arith in
    let e : nat_eq (f a) j ≡ true = eq-eqb (f a) j (ap f here ∙ is) in
    rw e refl
place_of-map_range f a (suc n) j (suc d) lt is not =
    let here : a + 0 ≡ a = omega arith in
    let there : (a + 1) + d ≡ a + suc d = omega arith in
    let e : nat_eq (f a) j ≡ false = ne_eqb (f a) j (λ same. not 0 (omega arith) (ap f here ∙ same)) in
    rw e (ap suc (place_of-map_range f (a + 1) n j d (omega arith) (ap f there ∙ is)
    (λ k less same. let next : a + suc k ≡ (a + 1) + k = omega arith in not (suc k) (omega arith) (ap f next ∙ same))))

-- how often a value stands in a list of values
pub count_same-map_range_none : (f : ℕ → ℕ) (a n j : ℕ) → ((e : ℕ) → e < n → f (a + e) ≢ j) → count_same j (map f (range_with_len a n)) ≡ 0
count_same-map_range_none f a zero j not = refl
count_same-map_range_none f a (suc n) j not =
    let here : a + 0 ≡ a = omega arith in
    let e : nat_eq (f a) j ≡ false = ne_eqb (f a) j (λ same. not 0 (omega arith) (ap f here ∙ same)) in
    let none : one_if (nat_eq (f a) j) ≡ 0 = rw e refl in
    omega (arith, none, count_same-map_range_none f (a + 1) n j (λ k less same. let next : a + suc k ≡ (a + 1) + k = omega arith in not (suc k) (omega arith) (ap f next ∙ same)))

-- once where one number alone has it
pub count_same-map_range_one : (f : ℕ → ℕ) (a n j d : ℕ) → d < n → f (a + d) ≡ j → ((e : ℕ) → e < n → e ≢ d → f (a + e) ≢ j) → count_same j (map f (range_with_len a n)) ≡ 1
count_same-map_range_one f a zero j d lt is not = absurd (omega arith)
count_same-map_range_one f a (suc n) j zero lt is not =
    let here : a ≡ a + 0 = omega arith in
    let e : nat_eq (f a) j ≡ true = eq-eqb (f a) j (ap f here ∙ is) in
    let one : one_if (nat_eq (f a) j) ≡ 1 = rw e refl in
    omega (arith, one, count_same-map_range_none f (a + 1) n j (λ k less same. let next : a + suc k ≡ (a + 1) + k = omega arith in not (suc k) (omega arith) (λ z. absurd (omega arith)) (ap f next ∙ same)))
count_same-map_range_one f a (suc n) j (suc d) lt is not =
    let here : a + 0 ≡ a = omega arith in
    let there : (a + 1) + d ≡ a + suc d = omega arith in
    let e : nat_eq (f a) j ≡ false = ne_eqb (f a) j (λ same. not 0 (omega arith) (λ z. absurd (omega arith)) (ap f here ∙ same)) in
    let none : one_if (nat_eq (f a) j) ≡ 0 = rw e refl in
    omega (
      arith,
      none,
      count_same-map_range_one f (a + 1) n j d (omega arith) (ap f there ∙ is)
          (λ k less other same. let next : a + suc k ≡ (a + 1) + k = omega arith in not (suc k) (omega arith) (λ z. other (omega arith)) (ap f next ∙ same)),
    )

-- the length of a block
pub length-block : (n x : ℕ) → length (replicate n x) ≡ n
length-block zero x = refl
length-block (suc n) x = ap suc (length-block n x)

-- a smaller number is not in a range
pub count_same-range_none : (k a n : ℕ) → k < a → count_same k (range_with_len a n) ≡ 0
count_same-range_none k a zero h = refl
count_same-range_none k a (suc n) h = let none : one_if (nat_eq a k) ≡ 0 = grind (arith, nat_tests) in omega (arith, none, count_same-range_none k (a + 1) n (omega arith))

-- nor is one past its end
pub count_same-range_past : (k a n : ℕ) → a + n ≤ k → count_same k (range_with_len a n) ≡ 0
count_same-range_past k a zero h = refl
count_same-range_past k a (suc n) h = let none : one_if (nat_eq a k) ≡ 0 = grind (arith, nat_tests) in omega (arith, none, count_same-range_past k (a + 1) n (omega arith))

-- a number of the range is in it once
pub count_same-range : (k a n : ℕ) → a ≤ k → k < a + n → count_same k (range_with_len a n) ≡ 1
count_same-range k a zero from to = absurd (omega arith)
count_same-range k a (suc n) from to = elim (cases_lt a k) [
  | inl past ↦ (let none : one_if (nat_eq a k) ≡ 0 = grind (arith, nat_tests) in omega (arith, none, count_same-range k (a + 1) n (omega arith) (omega arith)))
  | inr at ↦ (let one : one_if (nat_eq a k) ≡ 1 = grind (arith, nat_tests) in omega (arith, one, count_same-range_none k (a + 1) n (omega arith)))
]
