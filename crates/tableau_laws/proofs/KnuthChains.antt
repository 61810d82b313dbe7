-- A chain of Knuth moves leads from each word of distinct letters to the reading word of its tableau (Knuth 1970).
use Rattle.std.proofs.Common.{◌≡◌, ℕ, ◌+◌, ◌<◌, ◌≤◌, List, [], ◌∷◌, ◌++◌, sym, ◌∙◌, ap, subst, refl, arith, inl, inr, ◌⊎◌, append_assoc}
use Rattle.std.specs.Prelude.{Option, Some, None}
use Rattle.std.proofs.lemmas.Bool.{cases_lt}
use Rattle.std.proofs.lemmas.List.{append-nil}
use Rattle.realisations.specs.Standardisation.{count_same}
use Rattle.realisations.specs.Tableaux.{Entered, enter_row, enter, enter_all, insertion_tableau, reading_word}
use Rattle.basis_representatives.proofs.Counts.{count_same-append, one_if-self}
use Rattle.basis_representatives.proofs.Entries.{Apart, LeavesAbove, apart_lt, apart-count, count_option, count_same-enter, count_same-enter_row, enter-above, enter-below, rising-enter_row}
use Rattle.basis_representatives.proofs.ReadingWords.{count_same-reading_word}
use Rattle.basis_representatives.proofs.RowByRow.{Above, RisingRow, before}
use Rattle.tableau_laws.specs.Knuth.{xzy, yzx, Chain, done, step}
use Rattle.tableau_laws.proofs.KnuthRows.{entry-above, leaves-above}
use Rattle.tableau_laws.proofs.KnuthMoves.{Distinct, move-after, move-before}

-- one chain after another
pub chain-trans : (u v w : List ℕ) → Chain u v → Chain v w → Chain u w
chain-trans u v w (done t) k = k
chain-trans u v w (step a b c m h) k = step a b w m (chain-trans b v w h k)

-- a chain behind a word
chain-before : (p v w : List ℕ) → Chain v w → Chain (p ++ v) (p ++ w)
chain-before p v w (done t) = done (p ++ t)
chain-before p v w (step a b c m h) = step (p ++ a) (p ++ b) (p ++ w) (move-before p a b m) (chain-before p b w h)

-- a chain in front of a word
chain-after : (s v w : List ℕ) → Chain v w → Chain (v ++ s) (w ++ s)
chain-after s v w (done t) = done (t ++ s)
chain-after s v w (step a b c m h) = step (a ++ s) (b ++ s) (w ++ s) (move-after s a b m) (chain-after s b w h)

-- a small letter goes left to the second place of a rising row
slide : (a : ℕ) (r : List ℕ) (x : ℕ) → Above a r → RisingRow r → x < a → Chain (a ∷ (r ++ (x ∷ []))) (a ∷ x ∷ r)
slide a [] x h up l = done (a ∷ x ∷ [])
slide a (b ∷ r) x h up l =
    chain-trans (a ∷ b ∷ (r ++ (x ∷ []))) (a ∷ b ∷ x ∷ r) (a ∷ x ∷ b ∷ r)
    (chain-before (a ∷ []) (b ∷ (r ++ (x ∷ []))) (b ∷ x ∷ r) (slide b r x up.0 up.1 (omega (arith, h.0))))
    (step (a ∷ b ∷ x ∷ r) (a ∷ x ∷ b ∷ r) (a ∷ x ∷ b ∷ r) (yzx [] r x a b l h.0) (done (a ∷ x ∷ b ∷ r)))

-- where a letter leaves, the new row begins with a smaller one
abbrev HeadBelow : ℕ → List ℕ → Type 0
HeadBelow m [] = ⊥
HeadBelow m (f ∷ t) = f < m

-- where a letter leaves, the new row begins with a smaller one
head_below : (x m : ℕ) (r : List ℕ) → RisingRow r → (enter_row x r).leaves ≡ Some m → HeadBelow m (enter_row x r).row
head_below x m [] up e = absurd (cc)
head_below x m (b ∷ r) up e = go (cases_lt x b) e
  where
    some_above : (o : Option ℕ) → LeavesAbove b o → o ≡ Some m → b < m
    some_above None h e = absurd (cc)
    some_above (Some n) h e = let q : n ≡ m = cc in omega (arith, q, h)

    go : (x < b) ⊎ (b ≤ x) → (enter_row x (b ∷ r)).leaves ≡ Some m → HeadBelow m (enter_row x (b ∷ r)).row
    go (inl h) e =
        let c : (enter_row x (b ∷ r)).leaves ≡ Some b = ap (λ (n : Entered). n.leaves) (enter-below x b r h) in
        let q : b ≡ m = cc in
        let P : Entered → Type 0 = λ (n : Entered). HeadBelow m n.row in
        subst P (sym (enter-below x b r h)) (omega (arith, q, h))
    go (inr h) e =
        let c : (enter_row x (b ∷ r)).leaves ≡ (enter_row x r).leaves = ap (λ (n : Entered). n.leaves) (enter-above x b r h) in
        let P : Entered → Type 0 = λ (n : Entered). HeadBelow m n.row in
        subst P (sym (enter-above x b r h)) (some_above (enter_row x r).leaves (leaves-above b x r up.0) (sym c ∙ e))

-- a row followed by a letter: the letter that leaves, followed by the new row
row_chain : (r : List ℕ) (x : ℕ) → RisingRow r → Apart x r → Chain (r ++ (x ∷ [])) (before (enter_row x r).leaves (enter_row x r).row)
row_chain [] x up ax = done (x ∷ [])
row_chain (a ∷ r) x up ax = go (cases_lt x a) (row_chain r x up.1 ax.1)
  where
    first : (o : Option ℕ) (t : List ℕ) → Above a t → ((m : ℕ) → o ≡ Some m → HeadBelow m t) → Chain (a ∷ before o t) (before o (a ∷ t))
    first None t h k = done (a ∷ t)
    first (Some m) [] h k = absurd (k m refl)
    first (Some m) (f ∷ t) h k = step (a ∷ m ∷ f ∷ t) (m ∷ a ∷ f ∷ t) (m ∷ a ∷ f ∷ t) (xzy [] t a f m h.0 (k m refl)) (done (m ∷ a ∷ f ∷ t))

    go : (x < a) ⊎ (a ≤ x) → Chain (r ++ (x ∷ [])) (before (enter_row x r).leaves (enter_row x r).row)
        → Chain ((a ∷ r) ++ (x ∷ [])) (before (enter_row x (a ∷ r)).leaves (enter_row x (a ∷ r)).row)
    go (inl h) ih =
        let P : Entered → Type 0 = λ (n : Entered). Chain (a ∷ (r ++ (x ∷ []))) (before n.leaves n.row) in
        subst P (sym (enter-below x a r h)) (slide a r x up.0 up.1 h)
    go (inr h) ih =
        let P : Entered → Type 0 = λ (n : Entered). Chain (a ∷ (r ++ (x ∷ []))) (before n.leaves n.row) in
        subst P (sym (enter-above x a r h))
        (chain-trans (a ∷ (r ++ (x ∷ []))) (a ∷ before (enter_row x r).leaves (enter_row x r).row) (before (enter_row x r).leaves (a ∷ (enter_row x r).row))
        (chain-before (a ∷ []) (r ++ (x ∷ [])) (before (enter_row x r).leaves (enter_row x r).row) ih)
        (first (enter_row x r).leaves (enter_row x r).row (entry-above a x r (apart_lt a x h ax.0) up.0).1 (λ m e. head_below x m r up.1 e)))

-- rows that rise
abbrev RowsRise : List (List ℕ) → Type 0
RowsRise [] = Unit {0}
RowsRise (r ∷ rows) = RisingRow r × RowsRise rows

-- what enters and what stands there are all different
abbrev Fresh : Option ℕ → List (List ℕ) → Type 0
Fresh o rows = (k : ℕ) → count_option k o + count_same k (reading_word rows) ≤ 1

-- a letter, if there is one, behind a word
abbrev after : List ℕ → Option ℕ → List ℕ
after w None = w
after w (Some x) = w ++ (x ∷ [])

-- a letter behind the reading word leads to the reading word of the tableau that it entered
enter-chain : (rows : List (List ℕ)) (o : Option ℕ) → RowsRise rows → Fresh o rows → Chain (after (reading_word rows) o) (reading_word (enter o rows))
enter-chain rows None up f = done (reading_word rows)
enter-chain [] (Some x) up f = done (x ∷ [])
enter-chain (r ∷ rows) (Some x) up f =
    let apart : Apart x r = apart-count x r (omega (arith, f x, one_if-self x, count_same-append x (reading_word rows) r)) in
    rw (append_assoc (reading_word rows) r (x ∷ []))
    (chain-trans (reading_word rows ++ (r ++ (x ∷ []))) (reading_word rows ++ before (enter_row x r).leaves (enter_row x r).row) (reading_word (enter (enter_row x r).leaves rows) ++ (enter_row x r).row)
    (chain-before (reading_word rows) (r ++ (x ∷ [])) (before (enter_row x r).leaves (enter_row x r).row) (row_chain r x up.0 apart))
    (turn (enter_row x r).leaves (enter_row x r).row
    (chain-after (enter_row x r).row (after (reading_word rows) (enter_row x r).leaves) (reading_word (enter (enter_row x r).leaves rows))
    (enter-chain rows (enter_row x r).leaves up.1 (λ k. omega (arith, f k, count_same-enter_row k x r, count_same-append k (reading_word rows) r))))))
  where
    turn : (o : Option ℕ) (t : List ℕ) → {w : List ℕ} → Chain (after (reading_word rows) o ++ t) w → Chain (reading_word rows ++ before o t) w
    turn None t h = h
    turn (Some m) t h = rw (append_assoc (reading_word rows) (m ∷ []) t) at h

-- entering keeps the letters
enter-count : (k : ℕ) (o : Option ℕ) (rows : List (List ℕ)) → count_same k (reading_word (enter o rows)) ≡ count_option k o + count_same k (reading_word rows)
enter-count k o rows = omega (arith, count_same-reading_word k (enter o rows), count_same-enter k o rows, count_same-reading_word k rows)

-- entering keeps rising rows
enter-rise : (o : Option ℕ) (rows : List (List ℕ)) → RowsRise rows → Fresh o rows → RowsRise (enter o rows)
enter-rise None rows up f = up
enter-rise (Some x) [] up f = ((tt, tt), tt)
enter-rise (Some x) (r ∷ rows) up f = (
  rising-enter_row x r up.0 (apart-count x r (omega (arith, f x, one_if-self x, count_same-append x (reading_word rows) r))),
  enter-rise (enter_row x r).leaves rows up.1 (λ k. omega (arith, f k, count_same-enter_row k x r, count_same-append k (reading_word rows) r)),
)

-- the same for all letters of a word
enter_all-chain : (w : List ℕ) (rows : List (List ℕ)) → RowsRise rows → ((k : ℕ) → count_same k w + count_same k (reading_word rows) ≤ 1) →
    Chain (reading_word rows ++ w) (reading_word (enter_all w rows))
enter_all-chain [] rows up f = rw (append-nil (reading_word rows)) (done (reading_word rows))
enter_all-chain (x ∷ w) rows up f =
    let fresh : Fresh (Some x) rows = λ k. omega (arith, f k) in
    let front : Chain ((reading_word rows ++ (x ∷ [])) ++ w) (reading_word (enter (Some x) rows) ++ w) = chain-after w (reading_word rows ++ (x ∷ [])) (reading_word (enter (Some x) rows)) (enter-chain rows (Some x) up fresh) in
    chain-trans (reading_word rows ++ (x ∷ w)) (reading_word (enter (Some x) rows) ++ w) (reading_word (enter_all w (enter (Some x) rows)))
    (rw (append_assoc (reading_word rows) (x ∷ []) w) at front)
    (enter_all-chain w (enter (Some x) rows) (enter-rise (Some x) rows up fresh) (λ k. omega (arith, f k, enter-count k (Some x) rows)))

-- from each word of distinct letters to the reading word of its tableau
pub word_chain : (w : List ℕ) → Distinct w → Chain w (reading_word (insertion_tableau w))
word_chain w d = enter_all-chain w [] tt (λ k. omega (arith, d k))
