-- The reading word of a tableau by the numbers of rows: row by row, the last one first.
use Rattle.std.proofs.Common.{◌≡◌, ℕ, zero, suc, ◌+◌, ◌-◌, ◌<◌, ◌≤◌, List, [], ◌++◌, refl, sym, ◌∙◌, ap, arith, append_assoc}
use Rattle.std.proofs.lemmas.List.{append-nil}
use Rattle.realisations.specs.Tableaux.{reading_word}
use Rattle.realisations.specs.Words.{greatest}
use Rattle.tableau_laws.specs.NumberedRows.{letters_in, rows_by, rows_from}
use Rattle.tableau_laws.proofs.NumberedRows.{letters_in-none}

-- rows past the greatest number hold nothing
no_rows : (s j : ℕ) (letters code : List ℕ) → greatest code < s → reading_word (rows_from s j letters code) ≡ []
no_rows s zero letters code h = refl
no_rows s (suc j) letters code h =
    ap (λ w. w ++ letters_in s letters code) (no_rows (s + 1) j letters code (omega (arith, h))) ∙ letters_in-none s letters code h

-- so they add nothing to the reading word
more_rows : (s k j : ℕ) (letters code : List ℕ) → greatest code < s + k → reading_word (rows_from s (k + j) letters code) ≡ reading_word (rows_from s k letters code)
more_rows s zero j letters code h =
    let same : zero + j ≡ j = omega arith in
    ap (λ n. reading_word (rows_from s n letters code)) same ∙ no_rows s j letters code (omega (arith, h))
more_rows s (suc k) j letters code h =
    let same : suc k + j ≡ suc (k + j) = omega arith in
    ap (λ n. reading_word (rows_from s n letters code)) same
    ∙ ap (λ w. w ++ letters_in s letters code) (more_rows (s + 1) k j letters code (omega (arith, h)))

-- with rows that hold nothing the reading word is the same
pub reading_word-rows : (n : ℕ) (letters code : List ℕ) → greatest code ≤ n → reading_word (rows_from 1 n letters code) ≡ reading_word (rows_by letters code)
reading_word-rows n letters code le =
    let same : n ≡ greatest code + (n - greatest code) = omega (arith, le) in
    ap (λ m. reading_word (rows_from 1 m letters code)) same ∙ more_rows 1 (greatest code) (n - greatest code) letters code (omega arith)

-- the last row comes first
reading_word-last : (s k : ℕ) (letters code : List ℕ) → reading_word (rows_from s (suc k) letters code) ≡ letters_in (s + k) letters code ++ reading_word (rows_from s k letters code)
reading_word-last s zero letters code = ap (λ r. letters_in r letters code) (omega arith) ∙ sym (append-nil (letters_in (s + 0) letters code))
reading_word-last s (suc k) letters code =
    ap (λ w. w ++ letters_in s letters code) (reading_word-last (s + 1) k letters code)
    ∙ append_assoc (letters_in ((s + 1) + k) letters code) (reading_word (rows_from (s + 1) k letters code)) (letters_in s letters code)
    ∙ ap (λ r. letters_in r letters code ++ (reading_word (rows_from (s + 1) k letters code) ++ letters_in s letters code)) (omega arith)

-- a front of a reading word, then the letters of the next row
pub next_row : (word : List ℕ) (k row : ℕ) (letters code whole : List ℕ) → word ++ reading_word (rows_from 1 (suc k) letters code) ≡ whole → row ≡ suc k
    → (word ++ letters_in row letters code) ++ reading_word (rows_from 1 k letters code) ≡ whole
next_row word k row letters code whole e at =
    append_assoc word (letters_in row letters code) (reading_word (rows_from 1 k letters code))
    ∙ ap (λ r. word ++ (letters_in r letters code ++ reading_word (rows_from 1 k letters code))) (at ∙ omega arith)
    ∙ ap (λ w. word ++ w) (sym (reading_word-last 1 k letters code))
    ∙ e

-- behind the first row nothing is left
pub no_row_left : (word : List ℕ) (k : ℕ) (letters code whole : List ℕ) → word ++ reading_word (rows_from 1 k letters code) ≡ whole → k ≡ 0 → word ≡ whole
no_row_left word k letters code whole e none = sym (append-nil word) ∙ ap (λ n. word ++ reading_word (rows_from 1 n letters code)) (sym none) ∙ e
