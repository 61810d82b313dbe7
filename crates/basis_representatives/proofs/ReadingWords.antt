-- The insertion tableau of the reading word of a tableau is the tableau (Schensted 1961; Knuth 1970).
use Rattle.std.proofs.Common.{◌≡◌, ℕ, ◌<◌, true, List, [], ◌∷◌, length, refl, ◌∙◌, ap, arith}
use Rattle.std.specs.Prelude.{IsTrue, nat_lt, ◌&&◌}
use Rattle.std.specs.List.{concat}
use Rattle.std.proofs.lemmas.Bool.{and_parts, ltb-true}
use Rattle.std.proofs.lemmas.List.{length-append}
use Rattle.realisations.specs.Standardisation.{count_same}
use Rattle.realisations.specs.Tableaux.{enter_all, insertion_tableau, rises, is_below, is_increasing, reading_word}
use Rattle.basis_representatives.proofs.Counts.{count_same-append}
use Rattle.basis_representatives.proofs.Entries.{above_later}
use Rattle.basis_representatives.proofs.Permutations.{HasEachOnce}
use Rattle.basis_representatives.proofs.RowByRow.{Above, RisingRow, enter_all-append, enter_all-rows, word_leaves, word_leaves-above, word_row, word_row-above}
use Rattle.basis_representatives.proofs.SameLists.{cons_same}

-- numbers of which each is greater than the one before rise
pub rising_row_from : (row : List ℕ) → IsTrue (rises row) → RisingRow row
rising_row_from [] h = tt
rising_row_from (x ∷ []) h = (tt, tt)
rising_row_from (x ∷ y ∷ row) h =
    let parts = and_parts (nat_lt x y) (rises (y ∷ row)) h in
    let rest : RisingRow (y ∷ row) = rising_row_from (y ∷ row) parts.1 in
    let less : x < y = ltb-true x y parts.0 in
    ((less, above_later x y row less rest.0), rest)

-- a row has entered: the row that is left, and the letters that left
record HasPassed (w row row' leaves : List ℕ) : Type 0 where
  new : word_row w row ≡ row'
  left : word_leaves w row ≡ leaves

-- rising letters greater than a enter behind a
past_first : (a : ℕ) (w row row' leaves : List ℕ) → Above a w → HasPassed w row row' leaves → HasPassed w (a ∷ row) (a ∷ row') leaves
past_first a w row row' leaves h p = record {
  new = word_row-above a w row h ∙ ap (λ r. a ∷ r) p.new;
  left = word_leaves-above a w row h ∙ p.left;
}

-- a rising row enters where nothing stands
into_nothing : (w : List ℕ) → RisingRow w → HasPassed w [] w []
into_nothing [] h = record { new = refl; left = refl }
into_nothing (x ∷ w) h = let p = past_first x w [] w [] h.0 (into_nothing w h.1) in record { new = p.new; left = p.left }

-- a row that enters the row below it takes its place
into_below : (w row : List ℕ) → RisingRow w → IsTrue (is_below w row) → HasPassed w row w row
into_below w [] h k = absurd (cc)
into_below [] (y ∷ row) h k = absurd (cc)
into_below (x ∷ w) (y ∷ []) h k =
    let less : nat_lt x y ≡ true = k in
    let p = past_first x w [] w [] h.0 (into_nothing w h.1) in
    record { new = rw less p.new; left = rw less (ap (λ v. y ∷ v) p.left) }
into_below (x ∷ w) (y ∷ z ∷ row) h k =
    let parts = and_parts (nat_lt x y) (is_below w (z ∷ row)) k in
    let less = parts.0 in
    let p = past_first x w (z ∷ row) w (z ∷ row) h.0 (into_below w (z ∷ row) h.1 parts.1) in
    record { new = rw less p.new; left = rw less (ap (λ v. y ∷ v) p.left) }

-- the first row enters the other rows as a new first row
first_row_enters : (row : List ℕ) (rows : List (List ℕ)) → IsTrue (is_increasing (row ∷ rows)) → enter_all row rows ≡ row ∷ rows
first_row_enters [] rows h = absurd (cc)
first_row_enters (x ∷ row) [] h =
    let up = rising_row_from (x ∷ row) h in
    let p = past_first x row [] row [] up.0 (into_nothing row up.1) in
    enter_all-rows row (x ∷ []) [] ∙ cons_same p.new (ap (λ v. enter_all v []) p.left)
first_row_enters (x ∷ row) (next ∷ rows) h =
    let parts = and_parts (rises (x ∷ row) && is_below (x ∷ row) next) (is_increasing (next ∷ rows)) h in
    let two = and_parts (rises (x ∷ row)) (is_below (x ∷ row) next) parts.0 in
    let p = into_below (x ∷ row) next (rising_row_from (x ∷ row) two.0) two.1 in
    enter_all-rows (x ∷ row) next rows ∙ cons_same p.new (ap (λ v. enter_all v rows) p.left ∙ first_row_enters next rows parts.1)

-- the rows behind the first rise too
pub increasing-tail : (row : List ℕ) (rows : List (List ℕ)) → IsTrue (is_increasing (row ∷ rows)) → IsTrue (is_increasing rows)
increasing-tail [] rows h = absurd (cc)
increasing-tail (x ∷ row) [] h = refl
increasing-tail (x ∷ row) (next ∷ rows) h = (and_parts (rises (x ∷ row) && is_below (x ∷ row) next) (is_increasing (next ∷ rows)) h).1

-- P of the reading word of a tableau is the tableau
pub insertion_tableau-reading_word : (rows : List (List ℕ)) → IsTrue (is_increasing rows) → insertion_tableau (reading_word rows) ≡ rows
insertion_tableau-reading_word [] h = refl
insertion_tableau-reading_word (row ∷ rows) h =
    enter_all-append (reading_word rows) row []
    ∙ ap (λ t. enter_all row t) (insertion_tableau-reading_word rows (increasing-tail row rows h))
    ∙ first_row_enters row rows h

-- the reading word has the letters of the tableau
pub count_same-reading_word : (k : ℕ) (rows : List (List ℕ)) → count_same k (reading_word rows) ≡ count_same k (concat rows)
count_same-reading_word k [] = refl
count_same-reading_word k (row ∷ rows) =
    omega (arith, count_same-append k (reading_word rows) row, count_same-append k row (concat rows), count_same-reading_word k rows)

-- and is as long
pub length-reading_word : (rows : List (List ℕ)) → length (reading_word rows) ≡ length (concat rows)
length-reading_word [] = refl
length-reading_word (row ∷ rows) = omega (arith, length-append (reading_word rows) row, length-append row (concat rows), length-reading_word rows)

-- so that of a standard tableau is a permutation
pub permutation-reading_word : (rows : List (List ℕ)) → HasEachOnce (concat rows) → HasEachOnce (reading_word rows)
permutation-reading_word rows h = record { once = λ i from to. count_same-reading_word i rows ∙ h.once i from (omega (arith, to, length-reading_word rows)) }
