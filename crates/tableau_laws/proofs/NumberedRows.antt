-- Rows of letters by their numbers.
use Rattle.std.proofs.Common.{◌≡◌, ℕ, zero, suc, ◌+◌, ◌*◌, ◌<◌, ◌≤◌, Bool, true, false, List, [], ◌∷◌, ◌++◌, map, length, refl, sym, ◌∙◌, ap, arith, inl, inr}
use Rattle.std.specs.Prelude.{nat_eq, if◌then◌else◌}
use Rattle.std.specs.List.{concat, range_with_len}
use Rattle.std.proofs.lemmas.Bool.{cases_eq, eq-eqb, ne_eqb}
use Rattle.realisations.specs.Lists.{count, one_if}
use Rattle.realisations.specs.Tableaux.{places_of, rows_of}
use Rattle.realisations.specs.Words.{greatest}
use Rattle.realisations.proofs.RisingMaps.{Letters}
use Rattle.basis_representatives.proofs.Entries.{apart_lt}
use Rattle.basis_representatives.proofs.Letters.{Letters-range, Letters-weaker, up_to_greatest}
use Rattle.basis_representatives.proofs.RowByRow.{Above, RisingRow}
use Rattle.basis_representatives.proofs.SameLists.{cons_same}
use Rattle.tableau_laws.specs.NumberedRows.{letters_in, rows_from, rows_by}

-- a letter is itself
pub eq_is : (c r : ℕ) → c ≡ r → one_if (nat_eq c r) ≡ 1
eq_is c r e = ap one_if (eq-eqb c r e)

-- and no other
pub ne_is : (c r : ℕ) → (c ≡ r → ⊥) → one_if (nat_eq c r) ≡ 0
ne_is c r n = ap one_if (ne_eqb c r n)

-- a letter of the row
pub letters_in-here : (r x : ℕ) (letters : List ℕ) (c : ℕ) (code : List ℕ) → c ≡ r → letters_in r (x ∷ letters) (c ∷ code) ≡ x ∷ letters_in r letters code
letters_in-here r x letters c code e = rw (eq-eqb c r e) refl

-- a letter of another row
pub letters_in-there : (r x : ℕ) (letters : List ℕ) (c : ℕ) (code : List ℕ) → (c ≡ r → ⊥) → letters_in r (x ∷ letters) (c ∷ code) ≡ letters_in r letters code
letters_in-there r x letters c code n = rw (ne_eqb c r n) refl

-- two functions that are the same on a range of numbers
pub map_range_alike : {B : Type 0} (f g : ℕ → B) (s k : ℕ) → ((r : ℕ) → s ≤ r → r < s + k → f r ≡ g r) → map f (range_with_len s k) ≡ map g (range_with_len s k)
map_range_alike f g s zero h = refl
map_range_alike f g s (suc k) h = cons_same (h s (omega arith) (omega arith)) (map_range_alike f g (s + 1) k (λ r from to. h r (omega arith) (omega arith)))

-- the row of two lists of letters
pub letters_in-append : (r : ℕ) (u v cu cv : List ℕ) → length u ≡ length cu → letters_in r (u ++ v) (cu ++ cv) ≡ letters_in r u cu ++ letters_in r v cv
letters_in-append r [] v [] cv e = refl
letters_in-append r [] v (c ∷ cu) cv e = absurd (omega (arith, e))
letters_in-append r (x ∷ u) v [] cv e = absurd (omega (arith, e))
letters_in-append r (x ∷ u) v (c ∷ cu) cv e = by_test (nat_eq c r) (letters_in-append r u v cu cv (omega (arith, e)))
  where
    by_test : (b : Bool) → letters_in r (u ++ v) (cu ++ cv) ≡ letters_in r u cu ++ letters_in r v cv
        → (if b then x ∷ letters_in r (u ++ v) (cu ++ cv) else letters_in r (u ++ v) (cu ++ cv)) ≡ (if b then x ∷ letters_in r u cu else letters_in r u cu) ++ letters_in r v cv
    by_test true ih = ap (λ w. x ∷ w) ih
    by_test false ih = ih

-- what all letters have, those of a row have
pub Letters-letters_in : (P : ℕ → Type 0) (r : ℕ) (letters code : List ℕ) → Letters P letters → Letters P (letters_in r letters code)
Letters-letters_in P r [] code h = tt
Letters-letters_in P r (x ∷ letters) [] h = tt
Letters-letters_in P r (x ∷ letters) (c ∷ code) h = by_test (nat_eq c r) (Letters-letters_in P r letters code h.1)
  where
    by_test : (b : Bool) → Letters P (letters_in r letters code) → Letters P (if b then x ∷ letters_in r letters code else letters_in r letters code)
    by_test true ih = (h.0, ih)
    by_test false ih = ih

-- of rising letters a row rises
pub rising-letters_in : (r : ℕ) (letters code : List ℕ) → RisingRow letters → RisingRow (letters_in r letters code)
rising-letters_in r [] code h = tt
rising-letters_in r (x ∷ letters) [] h = tt
rising-letters_in r (x ∷ letters) (c ∷ code) h = by_test (nat_eq c r) (Letters-letters_in (λ b. x < b) r letters code h.0) (rising-letters_in r letters code h.1)
  where
    by_test : (b : Bool) → Above x (letters_in r letters code) → RisingRow (letters_in r letters code) → RisingRow (if b then x ∷ letters_in r letters code else letters_in r letters code)
    by_test true up ih = (up, ih)
    by_test false up ih = ih

-- no letter is in a row past the greatest number
pub letters_in-none : (r : ℕ) (letters code : List ℕ) → greatest code < r → letters_in r letters code ≡ []
letters_in-none r [] code h = refl
letters_in-none r (x ∷ letters) [] h = refl
letters_in-none r (x ∷ letters) (c ∷ code) h =
    letters_in-there r x letters c code (λ e. absurd (omega (arith, e, h))) ∙ letters_in-none r letters code (omega (arith, h))

-- the places of a number in a code are the letters 1, 2, .. in its row
pub places_of-letters_in : (r k : ℕ) (code : List ℕ) → places_of r k code ≡ letters_in r (range_with_len k (length code)) code
places_of-letters_in r k [] = refl
places_of-letters_in r k (c ∷ code) =
    let next : suc k ≡ k + 1 = omega arith in
    by_test (nat_eq c r) (ap (λ m. places_of r m code) next ∙ places_of-letters_in r (k + 1) code)
  where
    by_test : (b : Bool) → places_of r (suc k) code ≡ letters_in r (range_with_len (k + 1) (length code)) code
        → (if b then k ∷ places_of r (suc k) code else places_of r (suc k) code) ≡ (if b then k ∷ letters_in r (range_with_len (k + 1) (length code)) code else letters_in r (range_with_len (k + 1) (length code)) code)
    by_test true ih = ap (λ w. k ∷ w) ih
    by_test false ih = ih

-- so the rows of a code are the rows of these letters
pub rows_of-rows_by : (code : List ℕ) → rows_of code ≡ rows_by (range_with_len 1 (length code)) code
rows_of-rows_by code = map_range_alike (λ r. places_of r 1 code) (λ r. letters_in r (range_with_len 1 (length code)) code) 1 (greatest code) (λ r from to. places_of-letters_in r 1 code)

-- numbers of which each is one of the rows from s on, k of them
abbrev pub AreRows : ℕ → ℕ → List ℕ → Type 0
AreRows s k code = Letters (λ c. (s ≤ c) × (c < s + k)) code

-- the rows and their letters
module _ (test : ℕ → Bool) where
  -- counts in two lists together
  count-append : (u v : List ℕ) → count test (u ++ v) ≡ count test u + count test v
  count-append [] v = omega arith
  count-append (x ∷ u) v = omega (arith, count-append u v)

  -- in the row of a letter it counts
  count-row : (r x : ℕ) (letters : List ℕ) (c : ℕ) (code : List ℕ) → count test (letters_in r (x ∷ letters) (c ∷ code)) ≡ one_if (nat_eq c r) * one_if (test x) + count test (letters_in r letters code)
  count-row r x letters c code = by_test (nat_eq c r)
    where
      by_test : (b : Bool) → count test (if b then x ∷ letters_in r letters code else letters_in r letters code) ≡ one_if b * one_if (test x) + count test (letters_in r letters code)
      by_test true = omega arith
      by_test false = omega arith

  -- a letter of none of the rows does not count
  count-outside : (s k x : ℕ) (letters : List ℕ) (c : ℕ) (code : List ℕ) → c < s → count test (concat (rows_from s k (x ∷ letters) (c ∷ code))) ≡ count test (concat (rows_from s k letters code))
  count-outside s zero x letters c code h = refl
  count-outside s (suc k) x letters c code h =
      let none : one_if (nat_eq c s) ≡ 0 = ne_is c s (λ e. absurd (omega (arith, e, h))) in
      omega (
        arith,
        count-append (letters_in s (x ∷ letters) (c ∷ code)) (concat (rows_from (s + 1) k (x ∷ letters) (c ∷ code))),
        count-append (letters_in s letters code) (concat (rows_from (s + 1) k letters code)),
        count-row s x letters c code,
        ap (λ m. m * one_if (test x)) none,
        count-outside (s + 1) k x letters c code (omega (arith, h)),
      )

  -- a letter of one of the rows counts once
  count-inside : (s k x : ℕ) (letters : List ℕ) (c : ℕ) (code : List ℕ) → s ≤ c → c < s + k → count test (concat (rows_from s k (x ∷ letters) (c ∷ code))) ≡ one_if (test x) + count test (concat (rows_from s k letters code))
  count-inside s zero x letters c code from to = absurd (omega (arith, from, to))
  count-inside s (suc k) x letters c code from to =
      let whole = count-append (letters_in s (x ∷ letters) (c ∷ code)) (concat (rows_from (s + 1) k (x ∷ letters) (c ∷ code))) in
      let less = count-append (letters_in s letters code) (concat (rows_from (s + 1) k letters code)) in
      elim (cases_eq c s) [
        | inl same ↦ omega (arith, whole, less, count-row s x letters c code, ap (λ m. m * one_if (test x)) (eq_is c s same), count-outside (s + 1) k x letters c code (omega (arith, same)))
        | inr other ↦ omega (arith, whole, less, count-row s x letters c code, ap (λ m. m * one_if (test x)) (ne_is c s other), count-inside (s + 1) k x letters c code (omega (arith, apart_lt s c from other)) (omega (arith, to)))
      ]

  -- all letters stand in the rows
  pub count-rows : (s k : ℕ) (letters code : List ℕ) → length letters ≡ length code → AreRows s k code → count test (concat (rows_from s k letters code)) ≡ count test letters
  count-rows s k [] code e h = nothing s k
    where
      nothing : (s k : ℕ) → count test (concat (rows_from s k [] code)) ≡ 0
      nothing s zero = refl
      nothing s (suc k) = nothing (s + 1) k
  count-rows s k (x ∷ letters) [] e h = absurd (omega (arith, e))
  count-rows s k (x ∷ letters) (c ∷ code) e h = omega (arith, count-inside s k x letters c code h.0.0 h.0.1, count-rows s k letters code (omega (arith, e)) h.1)

-- the length as a count
count-true : (w : List ℕ) → count (λ x. true) w ≡ length w
count-true [] = refl
count-true (x ∷ w) = omega (arith, count-true w)

-- the rows have as many letters as there are
pub length-rows : (s k : ℕ) (letters code : List ℕ) → length letters ≡ length code → AreRows s k code → length (concat (rows_from s k letters code)) ≡ length letters
length-rows s k letters code e h = sym (count-true (concat (rows_from s k letters code))) ∙ count-rows (λ x. true) s k letters code e h ∙ count-true letters

-- positive numbers are those of the rows up to the greatest
pub within_greatest : (code : List ℕ) → Letters (λ c. 1 ≤ c) code → AreRows 1 (greatest code) code
within_greatest code h =
    Letters-weaker (λ c. (1 ≤ c) × (c ≤ greatest code)) (λ c. (1 ≤ c) × (c < 1 + greatest code)) (λ c k. (k.0, omega (arith, k.1))) code (up_to_greatest code (greatest code) (omega arith) h)

-- the letters 1, 2, .. rise
pub rising-range : (k n : ℕ) → RisingRow (range_with_len k n)
rising-range k zero = tt
rising-range k (suc n) = (Letters-range (λ y. k < y) (k + 1) n (λ x from to. omega (arith, from)), rising-range (k + 1) n)
