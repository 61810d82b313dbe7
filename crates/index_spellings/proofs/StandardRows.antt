-- Standard tableaux that are kept: their rows and their codes have room.
use Rattle.std.proofs.Common.{◌≡◌, ℕ, ◌+◌, ◌-◌, ◌<◌, ◌≤◌, List, [], ◌∷◌, length, get_or, sym, ◌∙◌, arith, inl, inr}
use Rattle.std.specs.Prelude.{IsTrue}
use Rattle.std.specs.List.{AllByRecursion, concat}
use Rattle.std.proofs.lemmas.Bool.{and_parts, cases_lt}
use Rattle.std.proofs.lemmas.List.{length-append}
use Rattle.std.proofs.lemmas.List.FromFn.{get_or-map-range_with_len, length-map-range_with_len}
use Rattle.linear_combos.specs.Codes.{IsCode}
use Rattle.realisations.specs.Standardisation.{count_same}
use Rattle.realisations.specs.Tableaux.{is_increasing, row_of, tableau_code}
use Rattle.realisations.specs.IndexKinds.{is_permutation, is_standard_tableau}
use Rattle.basis_representatives.proofs.Counts.{count_same-append}
use Rattle.basis_representatives.proofs.Letters.{Letters-values}
use Rattle.basis_representatives.proofs.Permutations.{HasEachOnce, each_once, letters-permutation, letters_that_occur}
use Rattle.basis_representatives.proofs.ReadingWords.{increasing-tail}
use Rattle.basis_representatives.proofs.TableauCodes.{row_of-here, row_of-later, row_of-positive}
use Rattle.permutation_words.proofs.Codes.{IsCode-up_to}
use Rattle.index_spellings.specs.KeptRows.{AreKept}

-- what a standard tableau has
pub permutes : (rows : List (List ℕ)) → IsTrue (is_standard_tableau rows) → HasEachOnce (concat rows)
permutes rows h = each_once (concat rows) (and_parts (is_permutation (concat rows)) (is_increasing rows) h).0

pub increases : (rows : List (List ℕ)) → IsTrue (is_standard_tableau rows) → IsTrue (is_increasing rows)
increases rows h = (and_parts (is_permutation (concat rows)) (is_increasing rows) h).1

rows_enough : (rows : List (List ℕ)) → IsTrue (is_increasing rows) → length rows ≤ length (concat rows)
rows_enough [] h = omega arith
rows_enough ([] ∷ rows) h = absurd (cc)
rows_enough ((x ∷ row) ∷ rows) h = omega (arith, length-append (x ∷ row) (concat rows), rows_enough rows (increasing-tail (x ∷ row) rows h))

-- at most as many rows as numbers
pub few_rows : (rows : List (List ℕ)) → IsTrue (is_standard_tableau rows) → length rows ≤ length (concat rows)
few_rows rows h = rows_enough rows (increases rows h)

-- rows of few small numbers are codes
rows_up_to : (n : ℕ) (rows : List (List ℕ)) → n ≤ 15 → length (concat rows) ≤ 15 → ((x : ℕ) → 1 ≤ count_same x (concat rows) → (1 ≤ x) × (x ≤ n)) → AllByRecursion IsCode rows
rows_up_to n [] small short h = tt
rows_up_to n (row ∷ rows) small short h = (
  IsCode-up_to n row small (omega (arith, length-append row (concat rows))) (letters_that_occur (λ x. (1 ≤ x) × (x ≤ n)) row (λ x occurs. h x (omega (arith, occurs, count_same-append x row (concat rows))))),
  rows_up_to n rows small (omega (arith, length-append row (concat rows))) (λ x occurs. h x (omega (arith, occurs, count_same-append x row (concat rows)))),
)

-- a small standard tableau is kept
pub kept_tableau : (rows : List (List ℕ)) → IsTrue (is_standard_tableau rows) → length (concat rows) ≤ 12 → AreKept rows
kept_tableau rows h small = record {
  few = omega (arith, few_rows rows h);
  are_codes = rows_up_to (length (concat rows)) rows (omega arith) (omega arith) (letters-permutation (concat rows) (permutes rows h));
}

row_of-within : (x : ℕ) (rows : List (List ℕ)) → row_of x rows ≤ length rows
row_of-within x [] = omega arith
row_of-within x (row ∷ rows) = elim (cases_lt 0 (count_same x row)) [
  | inl some ↦ omega (arith, row_of-here x row rows (omega arith))
  | inr none ↦ omega (arith, row_of-later x row rows (omega arith), row_of-within x rows)
]

pub length-tableau_code : (rows : List (List ℕ)) → length (tableau_code rows) ≡ length (concat rows)
length-tableau_code rows = length-map-range_with_len (λ i. row_of i rows) 1 (length (concat rows))

-- its code is one that is kept, too
pub IsCode-tableau : (rows : List (List ℕ)) → IsTrue (is_standard_tableau rows) → length (concat rows) ≤ 12 → IsCode (tableau_code rows)
IsCode-tableau rows h small =
    IsCode-up_to (length rows) (tableau_code rows) (omega (arith, few_rows rows h)) (omega (arith, length-tableau_code rows))
    (Letters-values (λ x. (1 ≤ x) × (x ≤ length rows)) (λ i. row_of i rows) 1 (length (concat rows))
    (λ x low high. (row_of-positive x rows (omega (arith, (permutes rows h).once x low (omega arith))), row_of-within x rows)))

-- the row of a number is a letter of the code
pub row_at : (rows : List (List ℕ)) (x i y : ℕ) → y ≡ row_of x rows → 1 ≤ x → x < length (concat rows) + 1 → i ≡ x - 1 → y ≡ get_or (tableau_code rows) i 0
row_at rows x i y is low high at =
    is ∙ sym (get_or-map-range_with_len (λ k. row_of k rows) 1 (length (concat rows)) i x 0 (omega (arith, low, high, at)) (omega (arith, low, high, at)))
