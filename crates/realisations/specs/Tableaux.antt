-- Row insertion, and standard tableaux (Schensted 1961; Knuth 1970). A tableau is the list of its rows, the first row first.
use Rattle.std.specs.Prelude.{ℕ, suc, Bool, true, false, ◌&&◌, if◌then◌else◌, List, [], ◌∷◌, ◌++◌, map, length, nat_eq, nat_lt, Option, Some, None}
use Rattle.std.specs.List.{concat, range_with_len}
use Rattle.realisations.specs.Lists.{is_among}
use Rattle.realisations.specs.Words.{greatest}
use Rattle.realisations.specs.Standardisation.{standardise, inverse}

-- a letter has entered a row: the letter that left it, if one did, and the row
pub record Entered : Type 0 where
  pub leaves : Option ℕ
  pub row : List ℕ

-- a letter enters a row: it takes the place of the first greater letter, which leaves, or where there is none it is appended
abbrev pub enter_row : ℕ → List ℕ → Entered
enter_row x [] = record { leaves = None; row = x ∷ [] }
enter_row x (y ∷ row) =
    if nat_lt x y then record { leaves = Some y; row = x ∷ row }
    else record { leaves = (enter_row x row).leaves; row = y ∷ (enter_row x row).row }

-- a letter, if there is one, enters the first row, and what leaves a row enters the next
abbrev pub enter : Option ℕ → List (List ℕ) → List (List ℕ)
enter None rows = rows
enter (Some x) [] = (x ∷ []) ∷ []
enter (Some x) (row ∷ rows) = (enter_row x row).row ∷ enter (enter_row x row).leaves rows

-- the letters of a word enter a tableau, from the left
abbrev pub enter_all : List ℕ → List (List ℕ) → List (List ℕ)
enter_all [] rows = rows
enter_all (x ∷ w) rows = enter_all w (enter (Some x) rows)

-- P(w), the insertion tableau
abbrev pub insertion_tableau : List ℕ → List (List ℕ)
insertion_tableau w = enter_all w []

-- the number of the row, counted from 1, in which i stands
abbrev pub row_of : ℕ → List (List ℕ) → ℕ
row_of i [] = 0
row_of i (row ∷ rows) = if is_among i row then 1 else suc (row_of i rows)

-- the code of a tableau: the numbers of the rows of 1, 2, .. in order
abbrev pub tableau_code : List (List ℕ) → List ℕ
tableau_code rows = map (λ i. row_of i rows) (range_with_len 1 (length (concat rows)))

-- the places, counted from k, at which r stands
abbrev pub places_of : ℕ → ℕ → List ℕ → List ℕ
places_of r k [] = []
places_of r k (x ∷ code) = if nat_eq x r then k ∷ places_of r (suc k) code else places_of r (suc k) code

-- the rows of a tableau by its code: in row r the places of r
abbrev pub rows_of : List ℕ → List (List ℕ)
rows_of code = map (λ r. places_of r 1 code) (range_with_len 1 (greatest code))

-- the reading word of a tableau: its rows from left to right, the last row first
abbrev pub reading_word : List (List ℕ) → List ℕ
reading_word [] = []
reading_word (row ∷ rows) = reading_word rows ++ row

-- the recording tableau of a word: P of the inverse of its standardisation
abbrev pub recording_tableau : List ℕ → List (List ℕ)
recording_tableau w = insertion_tableau (inverse (standardise w))

-- the numbers rise strictly
abbrev pub rises : List ℕ → Bool
rises [] = true
rises (x ∷ []) = true
rises (x ∷ y ∷ row) = nat_lt x y && rises (y ∷ row)

-- the second row is nonempty and no longer than the first, and each of its numbers is greater than the one above
abbrev pub is_below : List ℕ → List ℕ → Bool
is_below above [] = false
is_below [] (y ∷ below) = false
is_below (x ∷ above) (y ∷ []) = nat_lt x y
is_below (x ∷ above) (y ∷ z ∷ below) = nat_lt x y && is_below above (z ∷ below)

-- the rows rise to the right, and the columns downwards
abbrev pub is_increasing : List (List ℕ) → Bool
is_increasing [] = true
is_increasing ([] ∷ rows) = false
is_increasing ((x ∷ row) ∷ []) = rises (x ∷ row)
is_increasing ((x ∷ row) ∷ next ∷ rows) = rises (x ∷ row) && is_below (x ∷ row) next && is_increasing (next ∷ rows)
