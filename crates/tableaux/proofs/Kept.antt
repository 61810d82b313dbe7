-- Tableaux as they are kept: at most 12 letters.
use Rattle.std.proofs.Common.{◌≡◌, ℕ, ◌<◌, ◌≤◌, IsTrue, List, [], ◌∷◌, ◌++◌, length, take, drop, ap, arith}
use Rattle.std.specs.List.{concat, range_with_len}
use Rattle.realisations.specs.IndexKinds.{is_standard_tableau}
use Rattle.realisations.specs.Standardisation.{count_below, count_same}
use Rattle.realisations.specs.Tableaux.{reading_word}
use Rattle.basis_representatives.proofs.Permutations.{each_once}
use Rattle.linear_combos.specs.Codes.{IsCode}
use Rattle.permutation_words.proofs.Codes.{IsCode-permutation}
use Rattle.tableau_laws.specs.LatticeWords.{IsLatticeWord}
use Rattle.tableau_laws.specs.NumberedRows.{bumped, rows_by}
use Rattle.tableau_laws.proofs.NumberedTableaux.{lattice-entered, length-entered, length-rows_by, length-standard, numbered-entered, numbered-range, place-letters, place-rows, reading_word-standard}
use Rattle.tableaux.specs.NumberedTableaux.{IsKept}
use Rattle.tableaux.proofs.Codes.{IsCode-lattice}

-- a letter that enters where there is room
module _ (x : ℕ) (letters code : List ℕ) (h : IsKept letters code) (room : length (concat (rows_by letters code)) ≤ 11) (absent : count_same x (concat (rows_by letters code)) ≡ 0) where
  -- is one of at most 12
  pub room-letters : length letters < 12
  room-letters = omega (arith, length-rows_by letters code h.numbered, room)

  -- its place among the letters
  pub at-letters : (at : ℕ) → at ≡ count_below x letters → at ≤ length letters
  at-letters at e = place-letters x letters code h.numbered absent at e

  -- and among the rows
  pub at-rows : (at : ℕ) → at ≡ count_below x letters → at ≤ length code
  at-rows at e = place-rows x letters code h.numbered absent at e

  -- the new numbers of rows are a code
  pub code-entered : (at : ℕ) (prefix front behind : List ℕ) → at ≡ count_below x letters → prefix ≡ take at code → front ≡ prefix ++ (1 ∷ []) → behind ≡ drop at code
      → IsCode (front ++ bumped 1 behind)
  code-entered at prefix front behind e p f b =
      IsCode-lattice (front ++ bumped 1 behind) (lattice-entered x letters code h.numbered absent at prefix front behind e p f b)
      (omega (arith, length-entered x letters code h.numbered absent at prefix front behind e p f b, h.small))

  -- the new tableau is kept
  pub kept-entered : (at : ℕ) (prefix front behind now new : List ℕ) → at ≡ count_below x letters → prefix ≡ take at code → front ≡ prefix ++ (1 ∷ []) → behind ≡ drop at code
      → now ≡ take at letters ++ (x ∷ drop at letters) → new ≡ front ++ bumped 1 behind → IsKept now new
  kept-entered at prefix front behind now new e p f b n w = record {
    numbered = numbered-entered x letters code h.numbered absent at prefix front behind now new e p f b n w;
    small = omega (arith, ap length w, length-entered x letters code h.numbered absent at prefix front behind e p f b, h.numbered.same_size, room-letters);
  }

-- the letters 1, 2, .. with a lattice word
pub kept-range : (code : List ℕ) → IsLatticeWord code → length code ≤ 12 → IsKept (range_with_len 1 (length code)) code
kept-range code h le = record { numbered = numbered-range code h; small = le }

-- the reading word of a standard tableau is a code
pub code-reading_word : (letters code : List ℕ) → IsKept letters code → IsTrue (is_standard_tableau (rows_by letters code)) → IsCode (reading_word (rows_by letters code))
code-reading_word letters code h standard =
    IsCode-permutation (reading_word (rows_by letters code)) (each_once (reading_word (rows_by letters code)) (reading_word-standard letters code h.numbered standard))
    (omega (arith, length-standard letters code h.numbered standard, h.small))
