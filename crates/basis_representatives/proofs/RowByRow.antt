-- Row by row: the first row of a tableau takes a word, and the next rows take what leaves it.
use Rattle.std.proofs.Common.{◌≡◌, ℕ, ◌<◌, ◌≤◌, true, false, List, [], ◌∷◌, ◌++◌, refl, ◌∙◌, ap, arith}
use Rattle.std.specs.Prelude.{nat_lt, Option, Some, None}
use Rattle.std.proofs.lemmas.Bool.Decides.{nat_tests}
use Rattle.realisations.specs.Tableaux.{enter_row, enter, enter_all}
use Rattle.realisations.proofs.RisingMaps.{Letters}

-- a letter that left, if one did, stands before the others
abbrev pub before : Option ℕ → List ℕ → List ℕ
before None w = w
before (Some x) w = x ∷ w

-- the letters that leave a row when a word enters it, in order
abbrev pub word_leaves : List ℕ → List ℕ → List ℕ
word_leaves [] row = []
word_leaves (x ∷ w) row = before (enter_row x row).leaves (word_leaves w (enter_row x row).row)

-- the row once a word has entered it
abbrev pub word_row : List ℕ → List ℕ → List ℕ
word_row [] row = row
word_row (x ∷ w) row = word_row w (enter_row x row).row

-- the first row takes the word, and the rest takes what leaves
pub enter_all-rows : (w row : List ℕ) (rows : List (List ℕ)) → enter_all w (row ∷ rows) ≡ word_row w row ∷ enter_all (word_leaves w row) rows
enter_all-rows [] row rows = refl
enter_all-rows (x ∷ w) row rows =
    enter_all-rows w (enter_row x row).row (enter (enter_row x row).leaves rows)
    ∙ ap (λ t. word_row w (enter_row x row).row ∷ t) (step (enter_row x row).leaves)
  where
    step : (o : Option ℕ) → enter_all (word_leaves w (enter_row x row).row) (enter o rows) ≡ enter_all (before o (word_leaves w (enter_row x row).row)) rows
    step None = refl
    step (Some y) = refl

-- a word enters piece by piece
pub enter_all-append : (u v : List ℕ) (rows : List (List ℕ)) → enter_all (u ++ v) rows ≡ enter_all v (enter_all u rows)
enter_all-append [] v rows = refl
enter_all-append (x ∷ u) v rows = enter_all-append u v (enter (Some x) rows)

-- each letter is greater than a
abbrev pub Above : ℕ → List ℕ → Type 0
Above a w = Letters (λ b. a < b) w

-- the letters rise strictly
abbrev pub RisingRow : List ℕ → Type 0
RisingRow [] = Unit {0}
RisingRow (a ∷ row) = Above a row × RisingRow row

-- the test of a smaller letter
pub lt_is : (x a : ℕ) → x < a → nat_lt x a ≡ true
lt_is x a h = grind (arith, nat_tests)

-- and of one that is not
pub ge_is : (x a : ℕ) → a ≤ x → nat_lt x a ≡ false
ge_is x a h = grind (arith, nat_tests)

-- letters greater than the first letter of a row go past it
pub word_row-above : (a : ℕ) (w row : List ℕ) → Above a w → word_row w (a ∷ row) ≡ a ∷ word_row w row
word_row-above a [] row h = refl
word_row-above a (x ∷ w) row h = rw (ge_is x a (omega (arith, h.0))) (word_row-above a w (enter_row x row).row h.1)

-- and make the same letters leave
pub word_leaves-above : (a : ℕ) (w row : List ℕ) → Above a w → word_leaves w (a ∷ row) ≡ word_leaves w row
word_leaves-above a [] row h = refl
word_leaves-above a (x ∷ w) row h = rw (ge_is x a (omega (arith, h.0))) (ap (λ v. before (enter_row x row).leaves v) (word_leaves-above a w (enter_row x row).row h.1))
