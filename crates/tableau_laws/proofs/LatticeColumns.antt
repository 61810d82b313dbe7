-- Rows of rising letters whose numbers are a lattice word stand in columns, and only they.
use Rattle.std.proofs.Common.{◌≡◌, ◌⊎◌, ℕ, zero, suc, ◌+◌, ◌<◌, ◌≤◌, IsTrue, List, [], ◌∷◌, ◌++◌, length, refl, sym, subst, arith, inl, inr, append_assoc}
use Rattle.std.specs.Prelude.{max, nat_eq}
use Rattle.std.specs.List.{range_with_len}
use Rattle.std.proofs.lemmas.Bool.{cases_eq, cases_lt}
use Rattle.std.proofs.lemmas.List.{length-append}
use Rattle.std.proofs.lemmas.List.FromFn.{length-map-range_with_len, length-range_with_len}
use Rattle.realisations.specs.Lists.{one_if}
use Rattle.realisations.specs.Tableaux.{is_increasing}
use Rattle.realisations.specs.Words.{greatest}
use Rattle.realisations.proofs.RisingMaps.{Letters}
use Rattle.basis_representatives.proofs.Letters.{Letters-append, Letters-weaker}
use Rattle.basis_representatives.proofs.RowByRow.{Above, RisingRow}
use Rattle.tableau_laws.specs.LatticeWords.{IsLatticeWord}
use Rattle.tableau_laws.specs.NumberedRows.{letters_in, rows_by, rows_from}
use Rattle.tableau_laws.proofs.Columns.{AreColumns, HasLetter, IsUnder, columns_enough, first_letter, increasing-columns}
use Rattle.tableau_laws.proofs.Leads.{Leads, leads-lattice}
use Rattle.tableau_laws.proofs.NumberedRows.{Letters-letters_in, eq_is, length-rows, letters_in-here, letters_in-there, ne_is, rising-letters_in, rising-range, within_greatest}

-- a letter is r, or r + 1, or neither
one_or_other : (c r : ℕ) → (c ≡ r) ⊎ ((c ≡ suc r) ⊎ ((c ≡ r → ⊥) × (c ≡ suc r → ⊥)))
one_or_other c r = elim (cases_eq c r) [
  | inl here ↦ inl here
  | inr other ↦ elim (cases_eq c (suc r)) [ inl next ↦ inr (inl next) | inr neither ↦ inr (inr (other, neither)) ]
]

-- a letter greater than all of some others and than one more
past_more : (x : ℕ) (free letters : List ℕ) → Above x letters → Letters (λ y. Letters (λ a. a < y) free) letters → Letters (λ y. Letters (λ a. a < y) (free ++ (x ∷ []))) letters
past_more x free [] up h = tt
past_more x free (y ∷ letters) up h = (Letters-append (λ a. a < y) free (x ∷ []) h.0 (up.0, tt), past_more x free letters up.1 h.1)

-- row r + 1 stands under row r, of which some letters have no letter under them yet
under-leads : (r : ℕ) (free letters code : List ℕ) (a b : ℕ) → a ≡ b + length free → RisingRow letters → Letters (λ y. Letters (λ x. x < y) free) letters → Leads r a b code
    → IsUnder (free ++ letters_in r letters code) (letters_in (suc r) letters code)
under-leads r free [] code a b size up past h = tt
under-leads r free (x ∷ letters) [] a b size up past h = tt
under-leads r free (x ∷ letters) (c ∷ code) a b size up past h = elim (one_or_other c r) [
  | inl here ↦
      (let ih = under-leads r (free ++ (x ∷ [])) letters code (a + one_if (nat_eq c r)) (b + one_if (nat_eq c (suc r)))
      (omega (arith, size, eq_is c r here, ne_is c (suc r) (λ e. absurd (omega (arith, e, here))), length-append free (x ∷ []))) up.1 (past_more x free letters up.0 past.1) h.1 in
      subst (λ w. IsUnder (free ++ w) (letters_in (suc r) (x ∷ letters) (c ∷ code))) (sym (letters_in-here r x letters c code here))
      (subst (λ w. IsUnder (free ++ (x ∷ letters_in r letters code)) w) (sym (letters_in-there (suc r) x letters c code (λ e. absurd (omega (arith, e, here)))))
      (subst (λ w. IsUnder w (letters_in (suc r) letters code)) (append_assoc free (x ∷ []) (letters_in r letters code)) ih)))
  | inr rest ↦ elim rest [
    | inl next ↦
        subst (λ w. IsUnder (free ++ w) (letters_in (suc r) (x ∷ letters) (c ∷ code))) (sym (letters_in-there r x letters c code (λ e. absurd (omega (arith, e, next)))))
        (subst (λ w. IsUnder (free ++ letters_in r letters code) w) (sym (letters_in-here (suc r) x letters c code next))
        (shorter free (omega (arith, size, h.0, eq_is c (suc r) next, ne_is c r (λ e. absurd (omega (arith, e, next))))) past.0 past.1
        (λ free' e p. under-leads r free' letters code (a + one_if (nat_eq c r)) (b + one_if (nat_eq c (suc r)))
        (omega (arith, size, e, eq_is c (suc r) next, ne_is c r (λ e. absurd (omega (arith, e, next))))) up.1 p h.1)))
    | inr neither ↦
        subst (λ w. IsUnder (free ++ w) (letters_in (suc r) (x ∷ letters) (c ∷ code))) (sym (letters_in-there r x letters c code neither.0))
        (subst (λ w. IsUnder (free ++ letters_in r letters code) w) (sym (letters_in-there (suc r) x letters c code neither.1))
        (under-leads r free letters code (a + one_if (nat_eq c r)) (b + one_if (nat_eq c (suc r))) (omega (arith, size, ne_is c r neither.0, ne_is c (suc r) neither.1)) up.1 past.1 h.1))
  ]
]
  where
    shorter : (free : List ℕ) → 1 ≤ length free → Letters (λ y. y < x) free → Letters (λ y. Letters (λ a. a < y) free) letters
        → ((free' : List ℕ) → suc (length free') ≡ length free → Letters (λ y. Letters (λ a. a < y) free') letters → IsUnder (free' ++ letters_in r letters code) (letters_in (suc r) letters code))
        → IsUnder (free ++ letters_in r letters code) (x ∷ letters_in (suc r) letters code)
    shorter [] some below past ih = absurd (omega (arith, some))
    shorter (y ∷ free) some below past ih =
        (below.0, ih free refl (Letters-weaker (λ z. Letters (λ a. a < z) (y ∷ free)) (λ z. Letters (λ a. a < z) free) (λ z k. k.1) letters past))

-- and where it stands so, row r leads
pub leads-under : (r : ℕ) (free letters code : List ℕ) (a b : ℕ) → a ≡ b + length free → length letters ≡ length code → RisingRow letters
    → IsUnder (free ++ letters_in r letters code) (letters_in (suc r) letters code) → Leads r a b code
leads-under r free letters [] a b size e up h = tt
leads-under r free [] (c ∷ code) a b size e up h = absurd (omega (arith, e))
leads-under r free (x ∷ letters) (c ∷ code) a b size e up h = elim (one_or_other c r) [
  | inl here ↦ (
    omega (arith, size, eq_is c r here, ne_is c (suc r) (λ e. absurd (omega (arith, e, here)))),
    leads-under r (free ++ (x ∷ [])) letters code (a + one_if (nat_eq c r)) (b + one_if (nat_eq c (suc r)))
        (omega (arith, size, eq_is c r here, ne_is c (suc r) (λ e. absurd (omega (arith, e, here))), length-append free (x ∷ []))) (omega (arith, e)) up.1
        (subst (λ w. IsUnder w (letters_in (suc r) letters code)) (sym (append_assoc free (x ∷ []) (letters_in r letters code)))
        (subst (λ w. IsUnder (free ++ (x ∷ letters_in r letters code)) w) (letters_in-there (suc r) x letters c code (λ e. absurd (omega (arith, e, here))))
        (subst (λ w. IsUnder (free ++ w) (letters_in (suc r) (x ∷ letters) (c ∷ code))) (letters_in-here r x letters c code here) h))),
  )
  | inr rest ↦ elim rest [
    | inl next ↦
        shorter free
        (subst (λ w. IsUnder (free ++ letters_in r letters code) w) (letters_in-here (suc r) x letters c code next)
        (subst (λ w. IsUnder (free ++ w) (letters_in (suc r) (x ∷ letters) (c ∷ code))) (letters_in-there r x letters c code (λ e. absurd (omega (arith, e, next)))) h))
        (λ free' e' k. (
          omega (arith, size, e', eq_is c (suc r) next, ne_is c r (λ e. absurd (omega (arith, e, next)))),
          leads-under r free' letters code (a + one_if (nat_eq c r)) (b + one_if (nat_eq c (suc r)))
              (omega (arith, size, e', eq_is c (suc r) next, ne_is c r (λ e. absurd (omega (arith, e, next))))) (omega (arith, e)) up.1 k,
        ))
    | inr neither ↦ (
      omega (arith, size, ne_is c r neither.0, ne_is c (suc r) neither.1),
      leads-under r free letters code (a + one_if (nat_eq c r)) (b + one_if (nat_eq c (suc r))) (omega (arith, size, ne_is c r neither.0, ne_is c (suc r) neither.1)) (omega (arith, e)) up.1
          (subst (λ w. IsUnder (free ++ letters_in r letters code) w) (letters_in-there (suc r) x letters c code neither.1)
          (subst (λ w. IsUnder (free ++ w) (letters_in (suc r) (x ∷ letters) (c ∷ code))) (letters_in-there r x letters c code neither.0) h)),
    )
  ]
]
  where
    none_greater : (row under : List ℕ) → Above x row → IsUnder row (x ∷ under) → ⊥
    none_greater [] under k h = h
    none_greater (y ∷ row) under k h = absurd (omega (arith, k.0, h.0))

    shorter : (free : List ℕ) → IsUnder (free ++ letters_in r letters code) (x ∷ letters_in (suc r) letters code)
        → ((free' : List ℕ) → suc (length free') ≡ length free → IsUnder (free' ++ letters_in r letters code) (letters_in (suc r) letters code) → Leads r a b (c ∷ code))
        → Leads r a b (c ∷ code)
    shorter [] h ih = absurd (none_greater (letters_in r letters code) (letters_in (suc r) letters code) (Letters-letters_in (λ y. x < y) r letters code up.0) h)
    shorter (y ∷ free) h ih = ih free refl h.1

-- the greatest number of a code has a letter
greatest-letter : (letters code : List ℕ) → length letters ≡ length code → 1 ≤ greatest code → HasLetter (letters_in (greatest code) letters code)
greatest-letter letters [] e some = absurd (omega (arith, some))
greatest-letter [] (c ∷ code) e some = absurd (omega (arith, e))
greatest-letter (x ∷ letters) (c ∷ code) e some = elim (cases_eq c (greatest (c ∷ code))) [
  | inl same ↦ subst HasLetter (sym (letters_in-here (greatest (c ∷ code)) x letters c code same)) tt
  | inr other ↦
      (let rest : greatest (c ∷ code) ≡ greatest code = later c (greatest code) other in
      subst HasLetter (sym (letters_in-there (greatest (c ∷ code)) x letters c code other))
      (subst (λ m. HasLetter (letters_in m letters code)) (sym rest) (greatest-letter letters code (omega (arith, e)) (omega (arith, rest, some)))))
]
  where
    later : (c m : ℕ) → (c ≡ max c m → ⊥) → max c m ≡ m
    later c m n = elim (cases_lt c m) [ inl less ↦ omega (arith, less) | inr le ↦ absurd (n (omega (arith, le))) ]

-- a row with a letter stands under one with a letter
has_letter_above : (row under : List ℕ) → IsUnder row under → HasLetter under → HasLetter row
has_letter_above row [] h some = absurd some
has_letter_above [] (y ∷ under) h some = h
has_letter_above (x ∷ row) (y ∷ under) h some = tt

-- the rows from any one on stand in columns
columns-from : (letters code : List ℕ) → length letters ≡ length code → RisingRow letters → IsLatticeWord code → (s k : ℕ) → 1 ≤ s → s + k ≡ suc (greatest code) → AreColumns (rows_from s k letters code)
columns-from letters code e up h s zero from to = tt
columns-from letters code e up h s (suc zero) from to =
    let last : greatest code ≡ s = omega (arith, to) in
    (subst (λ m. HasLetter (letters_in m letters code)) last (greatest-letter letters code e (omega (arith, last, from))), rising-letters_in s letters code up)
columns-from letters code e up h s (suc (suc k)) from to =
    let rest : AreColumns (rows_from (s + 1) (suc k) letters code) = columns-from letters code e up h (s + 1) (suc k) (omega arith) (omega (arith, to)) in
    let next : suc s ≡ s + 1 = omega arith in
    let under : IsUnder (letters_in s letters code) (letters_in (s + 1) letters code) =
    subst (λ n. IsUnder (letters_in s letters code) (letters_in n letters code)) next (under-leads s [] letters code 0 0 (omega arith) up (nothing letters) (leads-lattice code h s from)) in (
      has_letter_above (letters_in s letters code) (letters_in (s + 1) letters code) under (first_letter (letters_in (s + 1) letters code) (rows_from ((s + 1) + 1) k letters code) rest),
      rising-letters_in s letters code up,
      under,
      rest,
    )
  where
    nothing : (letters : List ℕ) → Letters (λ y. Letters (λ x. x < y) []) letters
    nothing [] = tt
    nothing (y ∷ letters) = (tt, nothing letters)

-- the rows rise to the right and downwards
pub increasing-lattice : (letters code : List ℕ) → length letters ≡ length code → RisingRow letters → IsLatticeWord code → IsTrue (is_increasing (rows_by letters code))
increasing-lattice letters code e up h = increasing-columns (rows_by letters code) (columns-from letters code e up h 1 (greatest code) (omega arith) (omega arith))

-- no letter of a lattice word is greater than the number of letters
pub greatest-lattice : (code : List ℕ) → IsLatticeWord code → greatest code ≤ length code
greatest-lattice code h =
    let letters = range_with_len 1 (length code) in
    let size = length-range_with_len 1 (length code) in
    omega (
      arith,
      columns_enough (rows_by letters code) (columns-from letters code size (rising-range 1 (length code)) h 1 (greatest code) (omega arith) (omega arith)),
      length-rows 1 (greatest code) letters code size (within_greatest code h.positive),
      size,
      length-map-range_with_len (λ i. letters_in i letters code) 1 (greatest code),
    )
