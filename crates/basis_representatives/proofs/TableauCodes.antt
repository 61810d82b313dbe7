-- A standard tableau is determined by its code: row r holds the places of r.
use Rattle.std.proofs.Common.{◌≡◌, ◌⊎◌, ℕ, zero, suc, ◌+◌, ◌*◌, ◌<◌, ◌≤◌, Bool, true, false, List, [], ◌∷◌, map, length, get_or, refl, sym, ◌∙◌, ap, arith, inl, inr}
use Rattle.std.specs.Prelude.{IsTrue, nat_eq, ◌&&◌, if◌then◌else◌}
use Rattle.std.specs.List.{concat, range_with_len}
use Rattle.std.proofs.lemmas.Bool.{cases_lt, cases_eq, and_parts, eq-eqb, ne_eqb}
use Rattle.std.proofs.lemmas.Bool.Decides.{nat_tests}
use Rattle.std.proofs.lemmas.List.{length-append}
use Rattle.realisations.specs.Lists.{one_if}
use Rattle.realisations.specs.Words.{greatest}
use Rattle.realisations.specs.Standardisation.{count_same}
use Rattle.realisations.specs.Tableaux.{row_of, tableau_code, rows_of, places_of, rises, is_below, is_increasing}
use Rattle.realisations.specs.IndexKinds.{is_permutation, is_standard_tableau}
use Rattle.basis_representatives.proofs.Counts.{among_none, among_some, count_same-append, one_if-self}
use Rattle.basis_representatives.proofs.Permutations.{HasEachOnce, count_same-permutation, each_once, letters-permutation}
use Rattle.basis_representatives.proofs.Ranges.{count_same-range, count_same-range_none, count_same-range_past}
use Rattle.basis_representatives.proofs.ReadingWords.{increasing-tail, rising_row_from}
use Rattle.basis_representatives.proofs.RowByRow.{Above, RisingRow}

-- a letter is not among greater ones
pub above-absent : (a c : ℕ) (row : List ℕ) → a ≤ c → Above c row → count_same a row ≡ 0
above-absent a c [] h k = refl
above-absent a c (z ∷ row) h k =
    let less = k.0 in
    let none : one_if (nat_eq z a) ≡ 0 = grind (arith, nat_tests) in
    omega (arith, none, above-absent a c row h k.1)

-- a letter of the first row has row 1
pub row_of-here : (i : ℕ) (row : List ℕ) (rows : List (List ℕ)) → 1 ≤ count_same i row → row_of i (row ∷ rows) ≡ 1
row_of-here i row rows h = rw (among_some i row h) refl

-- another has its row among the others, and 1 more
pub row_of-later : (i : ℕ) (row : List ℕ) (rows : List (List ℕ)) → count_same i row ≡ 0 → row_of i (row ∷ rows) ≡ suc (row_of i rows)
row_of-later i row rows h = rw (among_none i row h) refl

-- the number of a row is positive
pub row_of-positive : (i : ℕ) (rows : List (List ℕ)) → 1 ≤ count_same i (concat rows) → 1 ≤ row_of i rows
row_of-positive i [] h = absurd (omega (arith, h))
row_of-positive i (row ∷ rows) h = elim (cases_lt 0 (count_same i row)) [
  | inl some ↦ omega (arith, row_of-here i row rows (omega arith))
  | inr none ↦ omega (arith, row_of-later i row rows (omega arith))
]

-- rising lists with the same letters are the same

least : (a b : ℕ) (u v : List ℕ) → Above b v → count_same a (a ∷ u) ≡ count_same a (b ∷ v) → b ≤ a
least a b u v up e = elim (cases_lt a b) [
  | inr le ↦ le
  | inl less ↦
      (let none : one_if (nat_eq b a) ≡ 0 = grind (arith, nat_tests) in
      absurd (omega (arith, e, none, one_if-self a, above-absent a b v (omega arith) up)))
]

rising_same : (u v : List ℕ) → RisingRow u → RisingRow v → ((x : ℕ) → count_same x u ≡ count_same x v) → u ≡ v
rising_same [] [] hu hv e = refl
rising_same [] (b ∷ v) hu hv e = absurd (omega (arith, e b, one_if-self b))
rising_same (a ∷ u) [] hu hv e = absurd (omega (arith, e a, one_if-self a))
rising_same (a ∷ u) (b ∷ v) hu hv e =
    let head : a ≡ b = (let s = least a b u v hv.0 (e a) in let t = least b a v u hu.0 (sym (e b)) in omega (arith, s, t)) in
    let rest : u ≡ v = rising_same u v hu.1 hv.1 (λ x. omega (arith, e x, ap (λ n. one_if (nat_eq n x)) head)) in
    λ i. head i ∷ rest i

-- the places of a number in a list of values

places-above : (r k : ℕ) (code : List ℕ) (a : ℕ) → a < k → Above a (places_of r k code)
places-above r k [] a h = tt
places-above r k (x ∷ code) a h = by_test (nat_eq x r) (places-above r (suc k) code a (omega arith))
  where
    by_test : (b : Bool) → Above a (places_of r (suc k) code) → Above a (if b then k ∷ places_of r (suc k) code else places_of r (suc k) code)
    by_test true ih = (h, ih)
    by_test false ih = ih

rising-places : (r k : ℕ) (code : List ℕ) → RisingRow (places_of r k code)
rising-places r k [] = tt
rising-places r k (x ∷ code) = by_test (nat_eq x r) (places-above r (suc k) code k (omega arith)) (rising-places r (suc k) code)
  where
    by_test : (b : Bool) → Above k (places_of r (suc k) code) → RisingRow (places_of r (suc k) code) → RisingRow (if b then k ∷ places_of r (suc k) code else places_of r (suc k) code)
    by_test true up ih = (up, ih)
    by_test false up ih = ih

-- in a list of values on a range the places are the numbers themselves
count_same-places : (f : ℕ → ℕ) (r k n x : ℕ) → count_same x (places_of r k (map f (range_with_len k n))) ≡ count_same x (range_with_len k n) * one_if (nat_eq (f x) r)
count_same-places f r k zero x = omega arith
count_same-places f r k (suc n) x =
    let next : suc k ≡ k + 1 = omega arith in
    let ih : count_same x (places_of r (suc k) (map f (range_with_len (k + 1) n))) ≡ count_same x (range_with_len (k + 1) n) * one_if (nat_eq (f x) r) =
    ap (λ m. count_same x (places_of r m (map f (range_with_len (k + 1) n)))) next ∙ count_same-places f r (k + 1) n x in
    by_test (nat_eq (f k) r) refl (cases_eq k x) ih
  where
    by_test : (b : Bool) → nat_eq (f k) r ≡ b → (k ≡ x) ⊎ (k ≡ x → ⊥)
        → count_same x (places_of r (suc k) (map f (range_with_len (k + 1) n))) ≡ count_same x (range_with_len (k + 1) n) * one_if (nat_eq (f x) r)
        → count_same x (if b then k ∷ places_of r (suc k) (map f (range_with_len (k + 1) n)) else places_of r (suc k) (map f (range_with_len (k + 1) n)))
        ≡ (one_if (nat_eq k x) + count_same x (range_with_len (k + 1) n)) * one_if (nat_eq (f x) r)
    by_test true e (inl same) ih =
        let one : one_if (nat_eq (f x) r) ≡ 1 = ap (λ m. one_if (nat_eq (f m) r)) (sym same) ∙ ap one_if e in
        omega (arith, ih, ap (λ m. one_if (nat_eq k x) * m) one)
    by_test false e (inl same) ih =
        let none : one_if (nat_eq (f x) r) ≡ 0 = ap (λ m. one_if (nat_eq (f m) r)) (sym same) ∙ ap one_if e in
        omega (arith, ih, ap (λ m. one_if (nat_eq k x) * m) none)
    by_test true e (inr other) ih = let none : one_if (nat_eq k x) ≡ 0 = ap one_if (ne_eqb k x other) in omega (arith, ih, none, ap (λ m. m * one_if (nat_eq (f x) r)) none)
    by_test false e (inr other) ih = let none : one_if (nat_eq k x) ≡ 0 = ap one_if (ne_eqb k x other) in omega (arith, ih, none, ap (λ m. m * one_if (nat_eq (f x) r)) none)

-- a number that stands once stands in the row of its number
count_same-row : (x i : ℕ) (rows : List (List ℕ)) → i < length rows → count_same x (concat rows) ≤ 1
    → count_same x (get_or rows i []) ≡ count_same x (concat rows) * one_if (nat_eq (row_of x rows) (suc i))
count_same-row x i [] lt once = absurd (omega arith)
count_same-row x zero (row ∷ rows) lt once = elim (cases_lt 0 (count_same x row)) [
  | inl some ↦
      (let at : nat_eq (row_of x (row ∷ rows)) 1 ≡ true = eq-eqb (row_of x (row ∷ rows)) 1 (row_of-here x row rows (omega arith)) in
      omega (arith, count_same-append x row (concat rows), once, some, ap (λ b. count_same x (concat (row ∷ rows)) * one_if b) at))
  | inr none ↦ elim (cases_lt 0 (count_same x (concat rows))) [
    | inl later ↦
        (let apart : nat_eq (row_of x (row ∷ rows)) 1 ≡ false = ne_eqb (row_of x (row ∷ rows)) 1 (λ e. absurd (omega (arith, e, row_of-later x row rows (omega arith), row_of-positive x rows (omega arith)))) in
        omega (arith, none, ap (λ b. count_same x (concat (row ∷ rows)) * one_if b) apart))
    | inr nowhere ↦
        (let zero : count_same x (concat (row ∷ rows)) ≡ 0 = omega (arith, count_same-append x row (concat rows), none, nowhere) in
        omega (arith, none, ap (λ m. m * one_if (nat_eq (row_of x (row ∷ rows)) 1)) zero))
  ]
]
count_same-row x (suc i) (row ∷ rows) lt once = elim (cases_lt 0 (count_same x row)) [
  | inl some ↦
      (let apart : nat_eq (row_of x (row ∷ rows)) (suc (suc i)) ≡ false = ne_eqb (row_of x (row ∷ rows)) (suc (suc i)) (λ e. absurd (omega (arith, e, row_of-here x row rows (omega arith)))) in
      let rest = count_same-row x i rows (omega arith) (omega (arith, count_same-append x row (concat rows), once)) in
      let zero : count_same x (concat rows) ≡ 0 = omega (arith, count_same-append x row (concat rows), once, some) in
      omega (arith, rest, ap (λ m. m * one_if (nat_eq (row_of x rows) (suc i))) zero, ap (λ b. count_same x (concat (row ∷ rows)) * one_if b) apart))
  | inr none ↦
      (let later : nat_eq (row_of x (row ∷ rows)) (suc (suc i)) ≡ nat_eq (row_of x rows) (suc i) = shifted (row_of x (row ∷ rows)) (row_of x rows) i (row_of-later x row rows (omega arith)) in
      let rest = count_same-row x i rows (omega arith) (omega (arith, count_same-append x row (concat rows), once)) in
      let same : count_same x (concat (row ∷ rows)) ≡ count_same x (concat rows) = omega (arith, count_same-append x row (concat rows), none) in
      rest ∙ ap (λ m. m * one_if (nat_eq (row_of x rows) (suc i))) (sym same) ∙ ap (λ b. count_same x (concat (row ∷ rows)) * one_if b) (sym later))
]
  where
    shifted : (m n i : ℕ) → m ≡ suc n → nat_eq m (suc (suc i)) ≡ nat_eq n (suc i)
    shifted m n i e = grind (arith, nat_tests)

rising-rows : (rows : List (List ℕ)) → IsTrue (is_increasing rows) → (i : ℕ) → i < length rows → RisingRow (get_or rows i [])
rising-rows [] h i lt = absurd (omega arith)
rising-rows (row ∷ rows) h zero lt = first row rows h
  where
    first : (row : List ℕ) (rows : List (List ℕ)) → IsTrue (is_increasing (row ∷ rows)) → RisingRow row
    first [] rows h = tt
    first (x ∷ row) [] h = rising_row_from (x ∷ row) h
    first (x ∷ row) (next ∷ rows) h =
        rising_row_from (x ∷ row) (and_parts (rises (x ∷ row)) (is_below (x ∷ row) next) (and_parts (rises (x ∷ row) && is_below (x ∷ row) next) (is_increasing (next ∷ rows)) h).0).0
rising-rows (row ∷ rows) h (suc i) lt = rising-rows rows (increasing-tail row rows h) i (omega arith)

-- as many rows as the greatest letter of the code says

greatest_at_most : (f : ℕ → ℕ) (a n m : ℕ) → ((x : ℕ) → f x ≤ m) → greatest (map f (range_with_len a n)) ≤ m
greatest_at_most f a zero m h = omega arith
greatest_at_most f a (suc n) m h = omega (arith, h a, greatest_at_most f (a + 1) n m h)

greatest_at_least : (f : ℕ → ℕ) (a n x : ℕ) → a ≤ x → x < a + n → f x ≤ greatest (map f (range_with_len a n))
greatest_at_least f a zero x from to = absurd (omega arith)
greatest_at_least f a (suc n) x from to = elim (cases_lt a x) [
  | inl past ↦ omega (arith, greatest_at_least f (a + 1) n x (omega arith) (omega arith))
  | inr at ↦ (let same : x ≡ a = omega arith in omega (arith, ap f same))
]

row_of-within : (x : ℕ) (rows : List (List ℕ)) → row_of x rows ≤ length rows
row_of-within x [] = omega arith
row_of-within x (row ∷ rows) = elim (cases_lt 0 (count_same x row)) [
  | inl some ↦ omega (arith, row_of-here x row rows (omega arith))
  | inr none ↦ omega (arith, row_of-later x row rows (omega arith), row_of-within x rows)
]

-- the last row has a letter, whose row is the last
last_letter : (rows : List (List ℕ)) → IsTrue (is_increasing rows) → 1 ≤ length rows → ((k : ℕ) → count_same k (concat rows) ≤ 1)
    → (x : ℕ) × (1 ≤ count_same x (concat rows)) × (row_of x rows ≡ length rows)
last_letter [] h some once = absurd (omega arith)
last_letter ([] ∷ rows) h some once = absurd (cc)
last_letter ((y ∷ row) ∷ []) h some once =
    (y, omega (arith, one_if-self y), row_of-here y (y ∷ row) [] (omega (arith, one_if-self y)))
last_letter ((y ∷ row) ∷ next ∷ rows) h some once =
    let rest = last_letter (next ∷ rows) (increasing-tail (y ∷ row) (next ∷ rows) h) (omega arith) (λ k. omega (arith, once k, count_same-append k (y ∷ row) (concat (next ∷ rows)))) in
    let x = rest.0 in
    let absent : count_same x (y ∷ row) ≡ 0 = omega (arith, once x, count_same-append x (y ∷ row) (concat (next ∷ rows)), rest.1) in
    (x, omega (arith, count_same-append x (y ∷ row) (concat (next ∷ rows)), rest.1), row_of-later x (y ∷ row) (next ∷ rows) absent ∙ ap suc rest.2)

rows_enough : (rows : List (List ℕ)) → IsTrue (is_increasing rows) → length rows ≤ length (concat rows)
rows_enough [] h = omega arith
rows_enough ([] ∷ rows) h = absurd (cc)
rows_enough ((x ∷ row) ∷ rows) h = omega (arith, length-append (x ∷ row) (concat rows), rows_enough rows (increasing-tail (x ∷ row) rows h))

-- a list of lists by its places
map_range_lists : (f : ℕ → List ℕ) (a : ℕ) (s : List (List ℕ)) → ((i : ℕ) → i < length s → f (a + i) ≡ get_or s i []) → map f (range_with_len a (length s)) ≡ s
map_range_lists f a [] h = refl
map_range_lists f a (x ∷ s) h =
    let here : a ≡ a + 0 = omega arith in
    let head : f a ≡ x = ap f here ∙ h 0 (omega arith) in
    let rest = map_range_lists f (a + 1) s (λ i lt. let next : (a + 1) + i ≡ a + suc i = omega arith in ap f next ∙ h (suc i) (omega arith)) in
    λ i. head i ∷ rest i

module _ (rows : List (List ℕ)) (standard : IsTrue (is_standard_tableau rows)) where
  parts : (IsTrue (is_permutation (concat rows))) × (IsTrue (is_increasing rows))
  parts = and_parts (is_permutation (concat rows)) (is_increasing rows) standard

  perm : HasEachOnce (concat rows)
  perm = each_once (concat rows) parts.0

  size : ℕ
  size = length (concat rows)

  greatest-code : greatest (tableau_code rows) ≡ length rows
  greatest-code = elim (cases_lt 0 (length rows)) [
    | inl some ↦
        (let last = last_letter rows parts.1 some (count_same-permutation (concat rows) perm) in
        let within = letters-permutation (concat rows) perm last.0 last.1 in
        omega (
          arith,
          greatest_at_most (λ x. row_of x rows) 1 (length (concat rows)) (length rows) (λ x. row_of-within x rows),
          greatest_at_least (λ x. row_of x rows) 1 (length (concat rows)) last.0 within.0 (omega (arith, within.1)),
          last.2,
        ))
    | inr none ↦ omega (arith, none, greatest_at_most (λ x. row_of x rows) 1 (length (concat rows)) (length rows) (λ x. row_of-within x rows))
  ]

  -- a number stands in the range as in the tableau
  count_same-size : (x : ℕ) → count_same x (range_with_len 1 (length (concat rows))) ≡ count_same x (concat rows)
  count_same-size zero = omega (arith, count_same-range_none 0 1 (length (concat rows)) (omega arith), absent)
    where
      absent : count_same 0 (concat rows) ≡ 0
      absent = elim (cases_lt 0 (count_same 0 (concat rows))) [
        | inl some ↦ absurd (omega (arith, (letters-permutation (concat rows) perm 0 (omega arith)).0))
        | inr none ↦ omega arith
      ]
  count_same-size (suc x) = elim (cases_lt x (length (concat rows))) [
    | inl within ↦ omega (arith, count_same-range (suc x) 1 (length (concat rows)) (omega arith) (omega arith), perm.once (suc x) (omega arith) (omega arith))
    | inr past ↦ omega (arith, count_same-range_past (suc x) 1 (length (concat rows)) (omega arith), absent past)
  ]
    where
      absent : length (concat rows) ≤ x → count_same (suc x) (concat rows) ≡ 0
      absent past = elim (cases_lt 0 (count_same (suc x) (concat rows))) [
        | inl some ↦ absurd (omega (arith, past, (letters-permutation (concat rows) perm (suc x) (omega arith)).1))
        | inr none ↦ omega arith
      ]

  row-places : (i : ℕ) → i < length rows → places_of (1 + i) 1 (tableau_code rows) ≡ get_or rows i []
  row-places i lt =
      let next : 1 + i ≡ suc i = omega arith in
      ap (λ r. places_of r 1 (tableau_code rows)) next
      ∙ rising_same (places_of (suc i) 1 (tableau_code rows)) (get_or rows i []) (rising-places (suc i) 1 (tableau_code rows)) (rising-rows rows parts.1 i lt)
      (λ x.
      count_same-places (λ y. row_of y rows) (suc i) 1 (length (concat rows)) x
      ∙ ap (λ m. m * one_if (nat_eq (row_of x rows) (suc i))) (count_same-size x)
      ∙ sym (count_same-row x i rows lt (count_same-permutation (concat rows) perm x)))

  -- a standard tableau has the rows of its code
  pub rows_of-code : rows_of (tableau_code rows) ≡ rows
  rows_of-code =
      ap (λ n. map (λ r. places_of r 1 (tableau_code rows)) (range_with_len 1 n)) greatest-code
      ∙ map_range_lists (λ r. places_of r 1 (tableau_code rows)) 1 rows row-places
