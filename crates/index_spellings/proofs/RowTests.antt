-- The tests of rows, number by number and row by row.
use Rattle.std.proofs.Common.{◌≡◌, ℕ, suc, ◌+◌, ◌-◌, ◌<◌, ◌≤◌, Bool, true, false, ◌&&◌, List, [], ◌∷◌, length, get_or, drop, refl, sym, ◌∙◌, ap, arith, drop-cons, length-drop}
use Rattle.std.specs.Prelude.{nat_lt}
use Rattle.std.proofs.Math.ListN.{drop_of_length-le}
use Rattle.realisations.specs.Tableaux.{is_below, is_increasing, rises}
use Rattle.index_spellings.specs.KeptRows.{columns_rise, is_rising}

-- no number stands above this one
pub no_number_above : (above below : List ℕ) (i : ℕ) → length above ≤ i → i < length below → columns_rise (drop i above) (drop i below) ≡ false
no_number_above above below i le lt =
    ap (λ us. columns_rise us (drop i below)) (drop_of_length-le above le) ∙ ap (λ us. columns_rise [] us) (drop-cons below i 0 lt)

and-true : (b : Bool) → b ≡ (b && true)
and-true true = refl
and-true false = refl

-- a nonempty row is below another where each column rises
pub is_below-columns : (above below : List ℕ) → 1 ≤ length below → is_below above below ≡ columns_rise above below
is_below-columns above [] some = absurd (omega arith)
is_below-columns [] (y ∷ below) some = refl
is_below-columns (x ∷ above) (y ∷ []) some = and-true (nat_lt x y)
is_below-columns (x ∷ above) (y ∷ z ∷ below) some = ap (λ b. nat_lt x y && b) (is_below-columns above (z ∷ below) (omega arith))

-- a row of one number rises, or of none
pub last_rises : (row : List ℕ) (i : ℕ) → length row ≤ i + 1 → rises (drop i row) ≡ true
last_rises row i le = short (drop i row) (let size : length (drop i row) ≡ length row - i = length-drop i row in omega (arith, size))
  where
    short : (row : List ℕ) → length row ≤ 1 → rises row ≡ true
    short [] le = refl
    short (x ∷ []) le = refl
    short (x ∷ y ∷ row) le = absurd (omega arith)

both-false : (p q : Bool) → p ≡ false → (p && q) ≡ false
both-false p q e = rw e refl

left-true : (p q r : Bool) → p ≡ true → (p && q && r) ≡ (q && r)
left-true p q r e = rw e refl

-- the first row does not rise
pub row_falls : (rows : List (List ℕ)) (i : ℕ) (row : List ℕ) → i < length rows → row ≡ get_or rows i row → is_rising row ≡ false → is_increasing (drop i rows) ≡ false
row_falls rows i row lt is falls = ap is_increasing (drop-cons rows i row lt ∙ ap (λ r. r ∷ drop (suc i) rows) (sym is)) ∙ by_rows row (drop (suc i) rows) falls
  where
    by_rows : (row : List ℕ) (rest : List (List ℕ)) → is_rising row ≡ false → is_increasing (row ∷ rest) ≡ false
    by_rows [] rest e = refl
    by_rows (x ∷ row) [] e = e
    by_rows (x ∷ row) (next ∷ rest) e = rw e refl

first_row : (rows : List (List ℕ)) (i : ℕ) (row : List ℕ) → i < length rows → row ≡ get_or rows i row → drop i rows ≡ row ∷ drop (suc i) rows
first_row rows i row lt is = drop-cons rows i row lt ∙ ap (λ r. r ∷ drop (suc i) rows) (sym is)

two_rows : (rows : List (List ℕ)) (i : ℕ) (row next : List ℕ) → i + 1 < length rows → row ≡ get_or rows i row → next ≡ get_or rows (i + 1) next
    → drop i rows ≡ row ∷ next ∷ drop (suc (i + 1)) rows
two_rows rows i row next lt is is' =
    let step : suc i ≡ i + 1 = omega arith in
    first_row rows i row (omega arith) is ∙ ap (λ n. row ∷ drop n rows) step ∙ ap (λ rest. row ∷ rest) (first_row rows (i + 1) next lt is')

next_rows : (row next : List ℕ) (rest : List (List ℕ)) → is_rising row ≡ true → is_increasing (row ∷ next ∷ rest) ≡ (is_below row next && is_increasing (next ∷ rest))
next_rows [] next rest e = absurd (cc)
next_rows (x ∷ row) next rest e = rw e refl

-- the second one is not below it
pub row_not_below : (rows : List (List ℕ)) (i : ℕ) (row next : List ℕ) → i + 1 < length rows → row ≡ get_or rows i row → next ≡ get_or rows (i + 1) next
    → is_rising row ≡ true → is_below row next ≡ false → is_increasing (drop i rows) ≡ false
row_not_below rows i row next lt is is' up e =
    ap is_increasing (two_rows rows i row next lt is is') ∙ next_rows row next (drop (suc (i + 1)) rows) up ∙ rw e refl

-- the others are left
pub rows_left : (rows : List (List ℕ)) (i : ℕ) (row next : List ℕ) → i + 1 < length rows → row ≡ get_or rows i row → next ≡ get_or rows (i + 1) next
    → is_rising row ≡ true → is_below row next ≡ true → is_increasing (drop i rows) ≡ is_increasing (drop (i + 1) rows)
rows_left rows i row next lt is is' up e =
    ap is_increasing (two_rows rows i row next lt is is') ∙ next_rows row next (drop (suc (i + 1)) rows) up ∙ rw e (ap is_increasing (sym (first_row rows (i + 1) next lt is')))

-- or none
pub no_row_left : (rows : List (List ℕ)) (i : ℕ) (row : List ℕ) → i < length rows → length rows ≤ i + 1 → row ≡ get_or rows i row
    → is_rising row ≡ true → is_increasing (drop i rows) ≡ is_increasing (drop (i + 1) rows)
no_row_left rows i row lt le is up =
    let none : drop (i + 1) rows ≡ [] = drop_of_length-le rows le in
    let step : suc i ≡ i + 1 = omega arith in
    ap is_increasing (first_row rows i row lt is ∙ ap (λ n. row ∷ drop n rows) step ∙ ap (λ rest. row ∷ rest) none) ∙ one_row row up ∙ ap is_increasing (sym none)
  where
    one_row : (row : List ℕ) → is_rising row ≡ true → is_increasing (row ∷ []) ≡ true
    one_row [] e = absurd (cc)
    one_row (x ∷ row) e = e
