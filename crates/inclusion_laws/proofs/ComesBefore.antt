-- Whether a number comes before the one below it in a word: Knuth moves keep it, and the reading word of a tableau has it where the number stands in a lower row.
use Rattle.std.proofs.Common.{◌≡◌, ◌≢◌, ◌⊎◌, ℕ, suc, ◌+◌, ◌<◌, ◌≤◌, Bool, true, false, List, [], ◌∷◌, ◌++◌, refl, sym, ◌∙◌, ap, arith, inl, inr}
use Rattle.std.specs.Prelude.{IsTrue, nat_eq, nat_lt, ◌&&◌, if◌then◌else◌}
use Rattle.std.specs.List.{concat}
use Rattle.std.proofs.lemmas.Bool.{and_parts, cases_lt, eqb-true}
use Rattle.std.proofs.lemmas.Bool.Decides.{nat_tests}
use Rattle.realisations.specs.Lists.{one_if}
use Rattle.realisations.specs.Standardisation.{count_same, place_of}
use Rattle.realisations.specs.Tableaux.{is_below, is_increasing, reading_word, rises, row_of}
use Rattle.basis_representatives.proofs.Counts.{count_same-append}
use Rattle.basis_representatives.proofs.Inverses.{stands_at}
use Rattle.basis_representatives.proofs.ReadingWords.{count_same-reading_word, increasing-tail, rising_row_from}
use Rattle.basis_representatives.proofs.RowByRow.{RisingRow, ge_is, lt_is}
use Rattle.basis_representatives.proofs.TableauCodes.{above-absent, row_of-here, row_of-later, row_of-positive}
use Rattle.tableau_laws.specs.Knuth.{Chain, Move, done, step, still, xzy, yxz, yzx, zxy}

-- whether x comes in a word, and before any y
abbrev pub comes_before : ℕ → ℕ → List ℕ → Bool
comes_before x y [] = false
comes_before x y (z ∷ w) = if nat_eq z y then false else (if nat_eq z x then true else comes_before x y w)

-- the letters behind a front
comes-behind : (x y : ℕ) (p u v : List ℕ) → comes_before x y u ≡ comes_before x y v → comes_before x y (p ++ u) ≡ comes_before x y (p ++ v)
comes-behind x y [] u v e = e
comes-behind x y (z ∷ p) u v e = rw (comes-behind x y p u v e) refl

-- two letters that differ by more than 1 change places
comes-swap : (a c m : ℕ) (w : List ℕ) → suc c < m → comes_before (suc a) a (c ∷ m ∷ w) ≡ comes_before (suc a) a (m ∷ c ∷ w)
comes-swap a c m w h = each (nat_eq c a) (nat_eq c (suc a)) (nat_eq m a) (nat_eq m (suc a)) (grind (arith, nat_tests)) (grind (arith, nat_tests)) (grind (arith, nat_tests)) (grind (arith, nat_tests)) (comes_before (suc a) a w)
  where
    each : (p q r s : Bool) → (p ≡ true → r ≡ false) → (p ≡ true → s ≡ false) → (q ≡ true → r ≡ false) → (q ≡ true → s ≡ false) → (t : Bool)
        → (if p then false else (if q then true else (if r then false else (if s then true else t))))
        ≡ (if r then false else (if s then true else (if p then false else (if q then true else t))))
    each true q r s e f g k t = rw (e refl, f refl) refl
    each false true r s e f g k t = rw (g refl, k refl) refl
    each false false r s e f g k t = refl

-- a Knuth move changes the places of two letters with one between them
comes-move : (a : ℕ) (u v : List ℕ) → Move u v → comes_before (suc a) a u ≡ comes_before (suc a) a v
comes-move a _ _ (still w) = refl
comes-move a _ _ (xzy p s x y z h k) = comes-behind (suc a) a p (x ∷ z ∷ y ∷ s) (z ∷ x ∷ y ∷ s) (comes-swap a x z (y ∷ s) (omega (arith, h, k)))
comes-move a _ _ (zxy p s x y z h k) = comes-behind (suc a) a p (z ∷ x ∷ y ∷ s) (x ∷ z ∷ y ∷ s) (sym (comes-swap a x z (y ∷ s) (omega (arith, h, k))))
comes-move a _ _ (yxz p s x y z h k) =
    comes-behind (suc a) a p (y ∷ x ∷ z ∷ s) (y ∷ z ∷ x ∷ s) (comes-behind (suc a) a (y ∷ []) (x ∷ z ∷ s) (z ∷ x ∷ s) (comes-swap a x z s (omega (arith, h, k))))
comes-move a _ _ (yzx p s x y z h k) =
    comes-behind (suc a) a p (y ∷ z ∷ x ∷ s) (y ∷ x ∷ z ∷ s) (comes-behind (suc a) a (y ∷ []) (z ∷ x ∷ s) (x ∷ z ∷ s) (sym (comes-swap a x z s (omega (arith, h, k)))))

-- and so does a chain of moves
pub comes-chain : (a : ℕ) (u v : List ℕ) → Chain u v → comes_before (suc a) a u ≡ comes_before (suc a) a v
comes-chain a _ _ (done w) = refl
comes-chain a _ _ (step u v w move rest) = comes-move a u v move ∙ comes-chain a v w rest

-- where neither is in the front, it makes no difference
comes-past : (x y : ℕ) (u w : List ℕ) → count_same x u ≡ 0 → count_same y u ≡ 0 → comes_before x y (u ++ w) ≡ comes_before x y w
comes-past x y [] w hx hy = refl
comes-past x y (z ∷ u) w hx hy = by_case (nat_eq z y) refl (nat_eq z x) refl (comes-past x y u w (omega (arith, hx)) (omega (arith, hy)))
  where
    by_case : (p : Bool) → nat_eq z y ≡ p → (q : Bool) → nat_eq z x ≡ q → comes_before x y (u ++ w) ≡ comes_before x y w → comes_before x y (z ∷ (u ++ w)) ≡ comes_before x y w
    by_case true e q f ih = absurd (omega (arith, ap one_if e, hy))
    by_case false e true f ih = absurd (omega (arith, ap one_if f, hx))
    by_case false e false f ih = rw (e, f) ih

-- x is in the front and y is not
comes-in_front : (x y : ℕ) (u w : List ℕ) → 1 ≤ count_same x u → count_same y u ≡ 0 → comes_before x y (u ++ w) ≡ true
comes-in_front x y [] w hx hy = absurd (omega (arith, hx))
comes-in_front x y (z ∷ u) w hx hy = by_case (nat_eq z y) refl (nat_eq z x) refl (λ k. comes-in_front x y u w k (omega (arith, hy)))
  where
    by_case : (p : Bool) → nat_eq z y ≡ p → (q : Bool) → nat_eq z x ≡ q → (1 ≤ count_same x u → comes_before x y (u ++ w) ≡ true) → comes_before x y (z ∷ (u ++ w)) ≡ true
    by_case true e q f ih = absurd (omega (arith, ap one_if e, hy))
    by_case false e true f ih = rw (e, f) refl
    by_case false e false f ih = rw (e, f) (ih (omega (arith, ap one_if f, hx)))

-- y is in the front, so what follows does not count
comes-front : (x y : ℕ) (u w : List ℕ) → 1 ≤ count_same y u → comes_before x y (u ++ w) ≡ comes_before x y u
comes-front x y [] w hy = absurd (omega (arith, hy))
comes-front x y (z ∷ u) w hy = by_case (nat_eq z y) refl (λ k. comes-front x y u w k)
  where
    by_case : (p : Bool) → nat_eq z y ≡ p → (1 ≤ count_same y u → comes_before x y (u ++ w) ≡ comes_before x y u) → comes_before x y (z ∷ (u ++ w)) ≡ comes_before x y (z ∷ u)
    by_case true e ih = rw e refl
    by_case false e ih = rw (e, ih (omega (arith, ap one_if e, hy))) refl

-- x does not come
comes-not : (x y : ℕ) (u : List ℕ) → count_same x u ≡ 0 → comes_before x y u ≡ false
comes-not x y [] hx = refl
comes-not x y (z ∷ u) hx = by_case (nat_eq z y) refl (nat_eq z x) refl (comes-not x y u (omega (arith, hx)))
  where
    by_case : (p : Bool) → nat_eq z y ≡ p → (q : Bool) → nat_eq z x ≡ q → comes_before x y u ≡ false → comes_before x y (z ∷ u) ≡ false
    by_case true e q f ih = rw e refl
    by_case false e true f ih = absurd (omega (arith, ap one_if f, hx))
    by_case false e false f ih = rw (e, f) ih

-- x comes before y where its place is earlier
pub comes-place : (x y : ℕ) (w : List ℕ) → x ≢ y → 1 ≤ count_same x w → 1 ≤ count_same y w → comes_before x y w ≡ nat_lt (place_of x w) (place_of y w)
comes-place x y [] other hx hy = absurd (omega (arith, hx))
comes-place x y (z ∷ w) other hx hy = by_case (nat_eq z y) refl (nat_eq z x) refl (λ k l. comes-place x y w other k l)
  where
    by_case : (p : Bool) → nat_eq z y ≡ p → (q : Bool) → nat_eq z x ≡ q → (1 ≤ count_same x w → 1 ≤ count_same y w → comes_before x y w ≡ nat_lt (place_of x w) (place_of y w))
        → comes_before x y (z ∷ w) ≡ nat_lt (place_of x (z ∷ w)) (place_of y (z ∷ w))
    by_case true e true f ih = absurd (other (sym (eqb-true z x f) ∙ eqb-true z y e))
    by_case true e false f ih = rw (e, f) (sym (ge_is (suc (place_of x w)) 1 (omega arith)))
    by_case false e true f ih =
        let at = stands_at y w (omega (arith, ap one_if e, hy)) in
        rw (e, f) (sym (lt_is 1 (suc (place_of y w)) (omega (arith, at.place))))
    by_case false e false f ih =
        let later : nat_lt (suc (place_of x w)) (suc (place_of y w)) ≡ nat_lt (place_of x w) (place_of y w) = grind (arith, nat_tests) in
        rw (e, f) (ih (omega (arith, ap one_if f, hx)) (omega (arith, ap one_if e, hy)) ∙ sym later)

-- in a rising row a comes first
comes-rising : (a : ℕ) (row : List ℕ) → RisingRow row → 1 ≤ count_same a row → comes_before (suc a) a row ≡ false
comes-rising a [] up h = refl
comes-rising a (c ∷ row) up h = by_case (nat_eq c a) refl (nat_eq c (suc a)) refl (λ k. comes-rising a row up.1 k)
  where
    by_case : (p : Bool) → nat_eq c a ≡ p → (q : Bool) → nat_eq c (suc a) ≡ q → (1 ≤ count_same a row → comes_before (suc a) a row ≡ false) → comes_before (suc a) a (c ∷ row) ≡ false
    by_case true e q f ih = rw e refl
    by_case false e true f ih =
        let same : c ≡ suc a = eqb-true c (suc a) f in
        absurd (omega (arith, ap one_if e, h, above-absent a c row (omega (arith, same)) up.0))
    by_case false e false f ih = rw (e, f) (ih (omega (arith, ap one_if e, h)))

-- each row rises
abbrev pub RowsRise : List (List ℕ) → Type 0
RowsRise [] = Unit {0}
RowsRise (row ∷ rows) = RisingRow row × RowsRise rows

first_rises : (row : List ℕ) (rows : List (List ℕ)) → IsTrue (is_increasing (row ∷ rows)) → RisingRow row
first_rises [] rows h = tt
first_rises (x ∷ row) [] h = rising_row_from (x ∷ row) h
first_rises (x ∷ row) (next ∷ rows) h =
    let parts = and_parts (rises (x ∷ row) && is_below (x ∷ row) next) (is_increasing (next ∷ rows)) h in
    rising_row_from (x ∷ row) (and_parts (rises (x ∷ row)) (is_below (x ∷ row) next) parts.0).0

-- those of a standard tableau do
pub rows_rise : (rows : List (List ℕ)) → IsTrue (is_increasing rows) → RowsRise rows
rows_rise [] h = tt
rows_rise (row ∷ rows) h = (first_rises row rows h, rows_rise rows (increasing-tail row rows h))

-- the reading word and the rows
pub comes-reading_word : (a : ℕ) (rows : List (List ℕ)) → RowsRise rows → count_same a (concat rows) ≡ 1 → count_same (suc a) (concat rows) ≡ 1
    → comes_before (suc a) a (reading_word rows) ≡ nat_lt (row_of a rows) (row_of (suc a) rows)
comes-reading_word a [] up ha hb = absurd (omega (arith, ha))
comes-reading_word a (row ∷ rows) up ha hb =
    by_case (cases_lt 0 (count_same a row)) (cases_lt 0 (count_same (suc a) row)) (λ k l. comes-reading_word a rows up.1 k l)
    (omega (arith, ha, count_same-append a row (concat rows))) (omega (arith, hb, count_same-append (suc a) row (concat rows)))
  where
    by_case : (0 < count_same a row) ⊎ (count_same a row ≤ 0) → (0 < count_same (suc a) row) ⊎ (count_same (suc a) row ≤ 0)
        → (count_same a (concat rows) ≡ 1 → count_same (suc a) (concat rows) ≡ 1 → comes_before (suc a) a (reading_word rows) ≡ nat_lt (row_of a rows) (row_of (suc a) rows))
        → count_same a row + count_same a (concat rows) ≡ 1 → count_same (suc a) row + count_same (suc a) (concat rows) ≡ 1
        → comes_before (suc a) a (reading_word rows ++ row) ≡ nat_lt (row_of a (row ∷ rows)) (row_of (suc a) (row ∷ rows))
    by_case (inl sa) (inl sb) ih ta tb =
        rw (row_of-here a row rows (omega arith), row_of-here (suc a) row rows (omega arith))
        (comes-past (suc a) a (reading_word rows) row (omega (arith, count_same-reading_word (suc a) rows)) (omega (arith, count_same-reading_word a rows))
        ∙ comes-rising a row up.0 (omega arith))
    by_case (inl sa) (inr nb) ih ta tb =
        let positive = row_of-positive (suc a) rows (omega arith) in
        rw (row_of-here a row rows (omega arith), row_of-later (suc a) row rows (omega arith))
        (comes-in_front (suc a) a (reading_word rows) row (omega (arith, count_same-reading_word (suc a) rows)) (omega (arith, count_same-reading_word a rows))
        ∙ sym (lt_is 1 (suc (row_of (suc a) rows)) (omega arith)))
    by_case (inr na) (inl sb) ih ta tb =
        rw (row_of-later a row rows (omega arith), row_of-here (suc a) row rows (omega arith))
        (comes-front (suc a) a (reading_word rows) row (omega (arith, count_same-reading_word a rows))
        ∙ comes-not (suc a) a (reading_word rows) (omega (arith, count_same-reading_word (suc a) rows))
        ∙ sym (ge_is (suc (row_of a rows)) 1 (omega arith)))
    by_case (inr na) (inr nb) ih ta tb =
        let later : nat_lt (suc (row_of a rows)) (suc (row_of (suc a) rows)) ≡ nat_lt (row_of a rows) (row_of (suc a) rows) = grind (arith, nat_tests) in
        rw (row_of-later a row rows (omega arith), row_of-later (suc a) row rows (omega arith))
        (comes-front (suc a) a (reading_word rows) row (omega (arith, count_same-reading_word a rows)) ∙ ih (omega arith) (omega arith) ∙ sym later)
