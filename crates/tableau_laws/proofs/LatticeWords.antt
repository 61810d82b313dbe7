-- A word is the code of a standard tableau exactly where it is a lattice word.
use Rattle.std.proofs.Common.{◌≡◌, ℕ, zero, suc, ◌+◌, ◌<◌, ◌≤◌, Bool, true, false, IsTrue, List, [], ◌∷◌, map, length, get_or, sym, ◌∙◌, ap, subst, arith, inl, inr}
use Rattle.std.specs.Prelude.{nat_eq, if◌then◌else◌}
use Rattle.std.specs.List.{concat, range_with_len}
use Rattle.std.proofs.lemmas.Bool.{and_from, and_parts, cases_eq, cases_lt}
use Rattle.std.proofs.lemmas.List.FromFn.{length-range_with_len}
use Rattle.realisations.specs.IndexKinds.{IsTableauCode, is_permutation, is_standard_tableau}
use Rattle.realisations.specs.Lists.{one_if}
use Rattle.realisations.specs.Standardisation.{count_same}
use Rattle.realisations.specs.Tableaux.{is_increasing, places_of, row_of, rows_of, tableau_code}
use Rattle.realisations.specs.Words.{greatest}
use Rattle.realisations.proofs.RisingMaps.{Letters}
use Rattle.basis_representatives.proofs.Entries.{apart_lt}
use Rattle.basis_representatives.proofs.Letters.{Letters-range, Letters-values}
use Rattle.basis_representatives.proofs.Permutations.{each_once, permutation_from}
use Rattle.basis_representatives.proofs.Ranges.{count_same-range, map_range_is}
use Rattle.basis_representatives.proofs.RowByRow.{Above}
use Rattle.basis_representatives.proofs.TableauCodes.{above-absent, row_of-here, row_of-later, row_of-positive, rows_of-code}
use Rattle.tableau_laws.specs.LatticeWords.{IsLatticeWord}
use Rattle.tableau_laws.specs.Laws.{CodeLaw}
use Rattle.tableau_laws.specs.NumberedRows.{letters_in}
use Rattle.tableau_laws.proofs.Columns.{IsUnder, under-increasing}
use Rattle.tableau_laws.proofs.LatticeColumns.{increasing-lattice, leads-under}
use Rattle.tableau_laws.proofs.Leads.{Leads, lattice_by_leads}
use Rattle.tableau_laws.proofs.NumberedRows.{AreRows, Letters-letters_in, count-rows, eq_is, length-rows, letters_in-none, ne_is, places_of-letters_in, rising-range, rows_of-rows_by, within_greatest}

-- a number is in row r where the code says so
place-counted : (r k : ℕ) (code : List ℕ) (i : ℕ) → i < length code → count_same (k + i) (places_of r k code) ≡ one_if (nat_eq (get_or code i 0) r)
place-counted r k [] i lt = absurd (omega (arith, lt))
place-counted r k (c ∷ code) zero lt = by_test (nat_eq c r) (ap (λ m. count_same m (places_of r (suc k) code)) same ∙ above-absent k k (places_of r (suc k) code) (omega arith) above)
  where
    same : k + 0 ≡ k
    same = omega arith

    above : Above k (places_of r (suc k) code)
    above =
        subst (Above k) (sym (places_of-letters_in r (suc k) code))
        (Letters-letters_in (λ y. k < y) r (range_with_len (suc k) (length code)) code (Letters-range (λ y. k < y) (suc k) (length code) (λ x from to. omega (arith, from))))

    by_test : (b : Bool) → count_same (k + 0) (places_of r (suc k) code) ≡ 0 → count_same (k + 0) (if b then k ∷ places_of r (suc k) code else places_of r (suc k) code) ≡ one_if b
    by_test true e = omega (arith, e, eq_is k (k + 0) (sym same))
    by_test false e = e
place-counted r k (c ∷ code) (suc i) lt =
    by_test (nat_eq c r) (ap (λ m. count_same m (places_of r (suc k) code)) next ∙ place-counted r (suc k) code i (omega (arith, lt)))
  where
    next : k + suc i ≡ suc k + i
    next = omega arith

    by_test : (b : Bool) → count_same (k + suc i) (places_of r (suc k) code) ≡ one_if (nat_eq (get_or code i 0) r)
        → count_same (k + suc i) (if b then k ∷ places_of r (suc k) code else places_of r (suc k) code) ≡ one_if (nat_eq (get_or code i 0) r)
    by_test true e = omega (arith, e, ne_is k (k + suc i) (λ q. absurd (omega (arith, q))))
    by_test false e = e

-- so it has this row
row-counted : (code : List ℕ) (i : ℕ) → i < length code → (s k : ℕ) → s ≤ get_or code i 0 → get_or code i 0 < s + k
    → row_of (1 + i) (map (λ r. places_of r 1 code) (range_with_len s k)) + s ≡ suc (get_or code i 0)
row-counted code i lt s zero from to = absurd (omega (arith, from, to))
row-counted code i lt s (suc k) from to = elim (cases_eq (get_or code i 0) s) [
  | inl same ↦ omega (arith, same, row_of-here (1 + i) (places_of s 1 code) (map (λ r. places_of r 1 code) (range_with_len (s + 1) k)) (omega (arith, place-counted s 1 code i lt, eq_is (get_or code i 0) s same)))
  | inr other ↦
      omega (
        arith,
        row_of-later (1 + i) (places_of s 1 code) (map (λ r. places_of r 1 code) (range_with_len (s + 1) k)) (omega (arith, place-counted s 1 code i lt, ne_is (get_or code i 0) s other)),
        row-counted code i lt (s + 1) k (omega (arith, apart_lt s (get_or code i 0) from other)) (omega (arith, to)),
      )
]

-- a letter of a code is the number of one of the rows
get_or-rows : (s k : ℕ) (code : List ℕ) → AreRows s k code → (i : ℕ) → i < length code → (s ≤ get_or code i 0) × (get_or code i 0 < s + k)
get_or-rows s k [] h i lt = absurd (omega (arith, lt))
get_or-rows s k (c ∷ code) h zero lt = h.0
get_or-rows s k (c ∷ code) h (suc i) lt = get_or-rows s k code h.1 i (omega (arith, lt))

-- the rows of a code of n letters hold n letters
length-rows_of : (code : List ℕ) → Letters (λ c. 1 ≤ c) code → length (concat (rows_of code)) ≡ length code
length-rows_of code h =
    ap (λ rows. length (concat rows)) (rows_of-rows_by code)
    ∙ length-rows 1 (greatest code) (range_with_len 1 (length code)) code (length-range_with_len 1 (length code)) (within_greatest code h)
    ∙ length-range_with_len 1 (length code)

-- positive letters are the code of their rows
pub code-rows_of : (code : List ℕ) → Letters (λ c. 1 ≤ c) code → tableau_code (rows_of code) ≡ code
code-rows_of code h =
    ap (λ n. map (λ i. row_of i (rows_of code)) (range_with_len 1 n)) (length-rows_of code h)
    ∙ map_range_is (λ i. row_of i (rows_of code)) 1 code
    (λ i lt.
    let within = get_or-rows 1 (greatest code) code (within_greatest code h) i lt in
    omega (arith, row-counted code i lt 1 (greatest code) within.0 within.1))

-- the rows of a lattice word are a standard tableau
pub standard-lattice : (code : List ℕ) → IsLatticeWord code → IsTrue (is_standard_tableau (rows_of code))
standard-lattice code h =
    let letters = range_with_len 1 (length code) in
    let size = length-range_with_len 1 (length code) in
    and_from (is_permutation (concat (rows_of code))) (is_increasing (rows_of code))
    (permutation_from (concat (rows_of code)) (record {
      once = λ i from to.
          ap (λ rows. count_same i (concat rows)) (rows_of-rows_by code)
          ∙ count-rows (λ y. nat_eq y i) 1 (greatest code) letters code size (within_greatest code h.positive)
          ∙ count_same-range i 1 (length code) from (omega (arith, to, length-rows_of code h.positive));
    }))
    (subst (λ rows. IsTrue (is_increasing rows)) (sym (rows_of-rows_by code)) (increasing-lattice letters code size (rising-range 1 (length code)) h))

-- so it is the code of one
pub tableau_code-lattice : (code : List ℕ) → IsLatticeWord code → IsTableauCode code
tableau_code-lattice code h = (rows_of code, standard-lattice code h, code-rows_of code h.positive)

-- the code of a standard tableau is a lattice word
pub lattice-tableau_code : (code : List ℕ) → IsTableauCode code → IsLatticeWord code
lattice-tableau_code code h = subst IsLatticeWord h.2 (lattice h.0 h.1)
  where
    under : (code : List ℕ) (r : ℕ) → 1 ≤ r → IsTrue (is_increasing (rows_of code)) → IsUnder (places_of r 1 code) (places_of (suc r) 1 code)
    under code r from h = elim (cases_lt r (greatest code)) [
      | inl within ↦ under-increasing (λ i. places_of i 1 code) 1 (greatest code) h r from (omega (arith, within))
      | inr past ↦
          subst (IsUnder (places_of r 1 code))
          (sym (places_of-letters_in (suc r) 1 code ∙ letters_in-none (suc r) (range_with_len 1 (length code)) code (omega (arith, past)))) tt
    ]

    leading : (code : List ℕ) (r : ℕ) → 1 ≤ r → IsTrue (is_increasing (rows_of code)) → Leads r 0 0 code
    leading code r from h =
        leads-under r [] (range_with_len 1 (length code)) code 0 0 (omega arith) (length-range_with_len 1 (length code)) (rising-range 1 (length code))
        (subst (λ w. IsUnder w (letters_in (suc r) (range_with_len 1 (length code)) code)) (places_of-letters_in r 1 code)
        (subst (λ w. IsUnder (places_of r 1 code) w) (places_of-letters_in (suc r) 1 code) (under code r from h)))

    lattice : (rows : List (List ℕ)) → IsTrue (is_standard_tableau rows) → IsLatticeWord (tableau_code rows)
    lattice rows standard =
        let parts = and_parts (is_permutation (concat rows)) (is_increasing rows) standard in
        let once = each_once (concat rows) parts.0 in
        let increasing : IsTrue (is_increasing (rows_of (tableau_code rows))) = subst (λ t. IsTrue (is_increasing t)) (sym (rows_of-code rows standard)) parts.1 in
        lattice_by_leads (tableau_code rows)
        (Letters-values (λ y. 1 ≤ y) (λ i. row_of i rows) 1 (length (concat rows)) (λ x from to. row_of-positive x rows (omega (arith, once.once x from (omega (arith, to))))))
        (λ r from. leading (tableau_code rows) r from increasing)

-- the law, from its parts
pub codes : CodeLaw
codes = record {
  lattice = lattice-tableau_code;
  standard = standard-lattice;
  read_back = λ code h. code-rows_of code h.positive;
}
