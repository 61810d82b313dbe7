-- Rows that stand one below the other in columns, and the test of rows and columns.
use Rattle.std.proofs.Common.{◌≡◌, ℕ, zero, suc, ◌+◌, ◌<◌, ◌≤◌, true, IsTrue, List, [], ◌∷◌, map, length, refl, subst, arith, inl, inr}
use Rattle.std.specs.Prelude.{nat_lt, ◌&&◌}
use Rattle.std.specs.List.{concat, range_with_len}
use Rattle.std.proofs.lemmas.Bool.{and_from, and_parts, cases_lt, ltb-true}
use Rattle.std.proofs.lemmas.List.{length-append}
use Rattle.realisations.specs.Tableaux.{rises, is_below, is_increasing}
use Rattle.basis_representatives.proofs.ReadingWords.{increasing-tail}
use Rattle.basis_representatives.proofs.RowByRow.{Above, RisingRow, lt_is}

-- the second row is no longer than the first, and each of its letters is greater than the one above
abbrev pub IsUnder : List ℕ → List ℕ → Type 0
IsUnder row [] = Unit {0}
IsUnder [] (y ∷ under) = ⊥
IsUnder (x ∷ row) (y ∷ under) = (x < y) × IsUnder row under

-- a row has a letter
abbrev pub HasLetter : List ℕ → Type 0
HasLetter [] = ⊥
HasLetter (x ∷ row) = Unit {0}

-- no row is empty, each rises, and each stands under the one before it
abbrev pub AreColumns : List (List ℕ) → Type 0
AreColumns [] = Unit {0}
AreColumns (row ∷ []) = HasLetter row × RisingRow row
AreColumns (row ∷ next ∷ rows) = HasLetter row × RisingRow row × IsUnder row next × AreColumns (next ∷ rows)

-- a rising row with a smaller letter in front passes its test
rises-above : (x : ℕ) (row : List ℕ) → Above x row → RisingRow row → rises (x ∷ row) ≡ true
rises-above x [] h up = refl
rises-above x (y ∷ row) h up = and_from (nat_lt x y) (rises (y ∷ row)) (lt_is x y h.0) (rises-above y row up.0 up.1)

-- and a row under another passes its test
below-under : (row under : List ℕ) → HasLetter under → IsUnder row under → is_below row under ≡ true
below-under row [] some h = absurd some
below-under [] (y ∷ under) some h = absurd h
below-under (x ∷ row) (y ∷ []) some h = lt_is x y h.0
below-under (x ∷ row) (y ∷ z ∷ under) some h = and_from (nat_lt x y) (is_below row (z ∷ under)) (lt_is x y h.0) (below-under row (z ∷ under) tt h.1)

-- the first row has a letter
pub first_letter : (row : List ℕ) (rows : List (List ℕ)) → AreColumns (row ∷ rows) → HasLetter row
first_letter row [] h = h.0
first_letter row (next ∷ rows) h = h.0

-- such rows pass the test
pub increasing-columns : (rows : List (List ℕ)) → AreColumns rows → IsTrue (is_increasing rows)
increasing-columns [] h = refl
increasing-columns ([] ∷ rows) h = absurd (first_letter [] rows h)
increasing-columns ((x ∷ row) ∷ []) h = rises-above x row h.1.0 h.1.1
increasing-columns ((x ∷ row) ∷ next ∷ rows) h =
    and_from (rises (x ∷ row) && is_below (x ∷ row) next) (is_increasing (next ∷ rows))
    (and_from (rises (x ∷ row)) (is_below (x ∷ row) next) (rises-above x row h.1.0 h.1.1) (below-under (x ∷ row) next (first_letter next rows h.3) h.2))
    (increasing-columns (next ∷ rows) h.3)

-- a row that passes the test stands under the other
under-below : (row under : List ℕ) → IsTrue (is_below row under) → IsUnder row under
under-below row [] h = tt
under-below [] (y ∷ under) h = absurd (cc)
under-below (x ∷ row) (y ∷ []) h = (ltb-true x y h, tt)
under-below (x ∷ row) (y ∷ z ∷ under) h =
    let parts = and_parts (nat_lt x y) (is_below row (z ∷ under)) h in
    (ltb-true x y parts.0, under-below row (z ∷ under) parts.1)

-- the second row stands under the first
first_under : (row next : List ℕ) (rows : List (List ℕ)) → IsTrue (is_increasing (row ∷ next ∷ rows)) → IsUnder row next
first_under [] next rows h = absurd (cc)
first_under (x ∷ row) next rows h =
    under-below (x ∷ row) next (and_parts (rises (x ∷ row)) (is_below (x ∷ row) next) (and_parts (rises (x ∷ row) && is_below (x ∷ row) next) (is_increasing (next ∷ rows)) h).0).1

-- and of rows that pass it, each stands under the one before
pub under-increasing : (f : ℕ → List ℕ) (s k : ℕ) → IsTrue (is_increasing (map f (range_with_len s k))) → (r : ℕ) → s ≤ r → suc r < s + k → IsUnder (f r) (f (suc r))
under-increasing f s zero h r from to = absurd (omega (arith, from, to))
under-increasing f s (suc zero) h r from to = absurd (omega (arith, from, to))
under-increasing f s (suc (suc k)) h r from to = elim (cases_lt s r) [
  | inl past ↦ under-increasing f (s + 1) (suc k) (increasing-tail (f s) (map f (range_with_len (s + 1) (suc k))) h) r (omega (arith, past)) (omega (arith, to))
  | inr at ↦
      (let same : s ≡ r = omega (arith, from, at) in
      let next : s + 1 ≡ suc r = omega (arith, same) in
      moved same next (first_under (f s) (f (s + 1)) (map f (range_with_len ((s + 1) + 1) k)) h))
]
  where
    moved : s ≡ r → s + 1 ≡ suc r → IsUnder (f s) (f (s + 1)) → IsUnder (f r) (f (suc r))
    moved same next h = subst (λ n. IsUnder (f n) (f (suc r))) same (subst (λ n. IsUnder (f s) (f n)) next h)

-- there are no more rows than letters
pub columns_enough : (rows : List (List ℕ)) → AreColumns rows → length rows ≤ length (concat rows)
columns_enough [] h = omega arith
columns_enough ([] ∷ rows) h = absurd (first_letter [] rows h)
columns_enough ((x ∷ row) ∷ []) h = omega (arith, length-append (x ∷ row) [])
columns_enough ((x ∷ row) ∷ next ∷ rows) h = omega (arith, length-append (x ∷ row) (concat (next ∷ rows)), columns_enough (next ∷ rows) h.3)
