-- Two words that differ by a Knuth move leave the same row, and letters that differ by one (Knuth 1970).
use Rattle.std.proofs.Common.{◌≡◌, ℕ, ◌<◌, ◌≤◌, List, [], ◌∷◌, refl, sym, ◌∙◌, ap, subst, arith, Bool, true, false, inl, inr, ◌⊎◌}
use Rattle.std.specs.Prelude.{nat_lt, if◌then◌else◌, Option, Some, None}
use Rattle.std.proofs.lemmas.Bool.{cases_lt}
use Rattle.realisations.specs.Tableaux.{Entered, enter_row}
use Rattle.basis_representatives.proofs.Entries.{Apart, LeavesAbove, apart_lt, enter-above, enter-below, leaves-past}
use Rattle.basis_representatives.proofs.RowByRow.{Above, RisingRow, before, ge_is, lt_is, word_leaves, word_leaves-above, word_row, word_row-above}
use Rattle.tableau_laws.specs.Knuth.{Move, still, xzy, yxz, yzx}

-- entries keep rows above a
pub entry-above : (a x : ℕ) (r : List ℕ) → a < x → Above a r → LeavesAbove a (enter_row x r).leaves × Above a (enter_row x r).row
entry-above a x [] h k = (tt, (h, tt))
entry-above a x (b ∷ r) h k = each (nat_lt x b) (entry-above a x r h k.1)
  where
    each : (t : Bool) → LeavesAbove a (enter_row x r).leaves × Above a (enter_row x r).row →
        (let e : Entered = if t then record { leaves = Some b; row = x ∷ r } else record { leaves = (enter_row x r).leaves; row = b ∷ (enter_row x r).row } in LeavesAbove a e.leaves × Above a e.row)
    each true ih = (k.0, (h, k.1))
    each false ih = (ih.0, (k.0, ih.1))

-- what leaves was in the row
pub leaves-above : (a x : ℕ) (r : List ℕ) → Above a r → LeavesAbove a (enter_row x r).leaves
leaves-above a x [] k = tt
leaves-above a x (b ∷ r) k =
    elim (cases_lt x b) [ inl h ↦ rw (lt_is x b h) k.0 | inr h ↦ rw (ge_is x b h) (leaves-above a x r k.1) ]

-- a smaller letter after z takes the place of a letter up to z
takes_next : (y z : ℕ) (r : List ℕ) → y < z → (m : ℕ) × ((enter_row y (enter_row z r).row).leaves ≡ Some m) × (m ≤ z)
takes_next y z [] h = (z, rw (lt_is y z h) refl, omega arith)
takes_next y z (a ∷ r) h =
    elim (cases_lt z a) [
      | inl k ↦ (z, rw (lt_is z a k, lt_is y z h) refl, omega arith)
      | inr k ↦ elim (cases_lt y a) [
        | inl l ↦ (a, rw (ge_is z a k, lt_is y a l) refl, k)
        | inr l ↦ (let t : (m : ℕ) × ((enter_row y (enter_row z r).row).leaves ≡ Some m) × (m ≤ z) = takes_next y z r h in (t.0, rw (ge_is z a k, ge_is y a l) t.1, t.2))
      ]
    ]

-- two words leave the same row, and letters that differ by a move
abbrev pub Alike : List ℕ → List ℕ → List ℕ → Type 0
Alike v w r = (word_row v r ≡ word_row w r) × Move (word_leaves v r) (word_leaves w r)

-- likeness behind a smaller first letter
alike-above : (a : ℕ) (v w r : List ℕ) → Above a v → Above a w → Alike v w r → Alike v w (a ∷ r)
alike-above a v w r hv hw h = (rw (word_row-above a v r hv, word_row-above a w r hw) (ap (λ t. a ∷ t) h.0), rw (word_leaves-above a v r hv, word_leaves-above a w r hw) h.1)

-- a word w turns the row r into s, and l leaves
record Run (w r l s : List ℕ) : Type 0 where
  row : word_row w r ≡ s
  leaves : word_leaves w r ≡ l

-- the empty word
run_nil : (r : List ℕ) → Run [] r [] r
run_nil r = record { row = refl; leaves = refl }

-- a first letter
run_step : (x : ℕ) (w r : List ℕ) (o : Option ℕ) (t l s : List ℕ) → enter_row x r ≡ record { leaves = o; row = t } → Run w t l s → Run (x ∷ w) r (before o l) s
run_step x w r o t l s e h = record {
  row = ap (λ (n : Entered). word_row w n.row) e ∙ h.row;
  leaves = ap (λ (n : Entered). before n.leaves (word_leaves w n.row)) e ∙ ap (before o) h.leaves;
}

-- a letter that takes the place of the first one
run_below : (x : ℕ) (w : List ℕ) (a : ℕ) (r l s : List ℕ) → x < a → Run w (x ∷ r) l s → Run (x ∷ w) (a ∷ r) (a ∷ l) s
run_below x w a r l s h k = run_step x w (a ∷ r) (Some a) (x ∷ r) l s (enter-below x a r h) k

-- a letter that enters the empty row
run_end : (x : ℕ) (w l s : List ℕ) → Run w (x ∷ []) l s → Run (x ∷ w) [] l s
run_end x w l s k = run_step x w [] None (x ∷ []) l s refl k

-- a letter that goes by the first one
run_past : (x : ℕ) (w : List ℕ) (a : ℕ) (r : List ℕ) (o : Option ℕ) (t l s : List ℕ) → a ≤ x → enter_row x r ≡ record { leaves = o; row = t } → Run w (a ∷ t) l s → Run (x ∷ w) (a ∷ r) (before o l) s
run_past x w a r o t l s h e k =
    run_step x w (a ∷ r) o (a ∷ t) l s (enter-above x a r h ∙ ap (λ (n : Entered). let m : Entered = record { leaves = n.leaves; row = a ∷ n.row } in m) e) k

-- two runs to one row
alike_of : (v w r l m s : List ℕ) → Run v r l s → Run w r m s → Move l m → Alike v w r
alike_of v w r l m s p q k = (p.row ∙ sym q.row, rw (p.leaves, q.leaves) k)

-- the move xzy, zxy at a row
pub knuth_1 : (x y z : ℕ) (r : List ℕ) → x < y → y < z → RisingRow r → Apart x r → Apart z r → Alike (x ∷ z ∷ y ∷ []) (z ∷ x ∷ y ∷ []) r
knuth_1 x y z [] h k up ax az =
    alike_of _ _ [] (z ∷ []) (z ∷ []) (x ∷ y ∷ [])
    (run_end _ _ _ _ (run_past _ _ _ _ None _ _ _ (omega arith) refl (run_past _ _ _ _ (Some z) _ _ _ (omega arith) (enter-below y z [] k) (run_nil _))))
    (run_end _ _ _ _ (run_below _ _ _ _ _ _ (omega arith) (run_past _ _ _ _ None _ _ _ (omega arith) refl (run_nil _))))
    (still (z ∷ []))
knuth_1 x y z (a ∷ r) h k up ax az =
    elim (cases_lt x a) [
      | inl l ↦ elim (cases_lt z a) [ inl m ↦ low r up l m | inr m ↦ mid l (apart_lt a z m az.0) (entry-above a z r (apart_lt a z m az.0) up.0) (enter_row z r) refl ]
      | inr l ↦ (let strict : a < x = apart_lt a x l ax.0 in alike-above a (x ∷ z ∷ y ∷ []) (z ∷ x ∷ y ∷ []) r (strict, (omega arith, (omega arith, tt))) (omega arith, (strict, (omega arith, tt))) (knuth_1 x y z r h k up.1 ax.1 az.1))
    ]
  where
    low : (r : List ℕ) → Above a r × RisingRow r → x < a → z < a → Alike (x ∷ z ∷ y ∷ []) (z ∷ x ∷ y ∷ []) (a ∷ r)
    low [] up l m =
        alike_of _ _ (a ∷ []) (a ∷ z ∷ []) (a ∷ z ∷ []) (x ∷ y ∷ [])
        (run_below _ _ _ _ _ _ l (run_past _ _ _ _ None _ _ _ (omega arith) refl (run_past _ _ _ _ (Some z) _ _ _ (omega arith) (enter-below y z [] k) (run_nil _))))
        (run_below _ _ _ _ _ _ m (run_below _ _ _ _ _ _ (omega arith) (run_past _ _ _ _ None _ _ _ (omega arith) refl (run_nil _))))
        (still (a ∷ z ∷ []))
    low (b ∷ r) up l m =
        alike_of _ _ (a ∷ b ∷ r) (a ∷ b ∷ z ∷ []) (a ∷ z ∷ b ∷ []) (x ∷ y ∷ r)
        (run_below _ _ _ _ _ _ l (run_past _ _ _ _ (Some b) _ _ _ (omega arith) (enter-below z b r (omega (arith, up.0.0))) (run_past _ _ _ _ (Some z) _ _ _ (omega arith) (enter-below y z r k) (run_nil _))))
        (run_below _ _ _ _ _ _ m (run_below _ _ _ _ _ _ (omega arith) (run_past _ _ _ _ (Some b) _ _ _ (omega arith) (enter-below y b r (omega (arith, up.0.0))) (run_nil _))))
        (yzx [] [] z a b m up.0.0)

    mid : x < a → a < z → LeavesAbove a (enter_row z r).leaves × Above a (enter_row z r).row → (e : Entered) → enter_row z r ≡ e → Alike (x ∷ z ∷ y ∷ []) (z ∷ x ∷ y ∷ []) (a ∷ r)
    mid l m past e is = last e.leaves e.row is (takes_next y z r k)
      where
        second : (t : List ℕ) (o : Option ℕ) → enter_row z r ≡ record { leaves = o; row = t } → (n : ℕ) → (enter_row y (enter_row z r).row).leaves ≡ Some n
            → enter_row y t ≡ record { leaves = Some n; row = (enter_row y t).row }
        second t o is n e = ap (λ (p : Option ℕ). let m : Entered = record { leaves = p; row = (enter_row y t).row } in m) (ap (λ (w : Entered). (enter_row y w.row).leaves) (sym is) ∙ e)

        some_above : (o : Option ℕ) (n : ℕ) → o ≡ Some n → LeavesAbove a o → a < n
        some_above None n e h = absurd (cc)
        some_above (Some m) n e h = let q : m ≡ n = cc in omega (arith, q, h)

        past_a : (t : List ℕ) (o : Option ℕ) → enter_row z r ≡ record { leaves = o; row = t } → (n : ℕ) → (enter_row y (enter_row z r).row).leaves ≡ Some n → a < n
        past_a t o is n e = some_above (enter_row y (enter_row z r).row).leaves n e (leaves-above a y (enter_row z r).row past.1)

        last : (o : Option ℕ) (t : List ℕ) → enter_row z r ≡ record { leaves = o; row = t } → (n : ℕ) × ((enter_row y (enter_row z r).row).leaves ≡ Some n) × (n ≤ z)
            → Alike (x ∷ z ∷ y ∷ []) (z ∷ x ∷ y ∷ []) (a ∷ r)
        last None t is next =
            alike_of _ _ (a ∷ r) (a ∷ next.0 ∷ []) (a ∷ next.0 ∷ []) (x ∷ (enter_row y t).row)
            (run_below _ _ _ _ _ _ l (run_past _ _ _ _ None _ _ _ (omega arith) is (run_past _ _ _ _ (Some next.0) _ _ _ (omega arith) (second t None is next.0 next.1) (run_nil _))))
            (run_past _ _ _ _ None _ _ _ (omega arith) is (run_below _ _ _ _ _ _ l (run_past _ _ _ _ (Some next.0) _ _ _ (omega arith) (second t None is next.0 next.1) (run_nil _))))
            (still (a ∷ next.0 ∷ []))
        last (Some q) t is next =
            let zq : z < q = (let P : Entered → Type 0 = λ (w : Entered). LeavesAbove z w.leaves in subst P is (leaves-past z r)) in
            alike_of _ _ (a ∷ r) (a ∷ q ∷ next.0 ∷ []) (q ∷ a ∷ next.0 ∷ []) (x ∷ (enter_row y t).row)
            (run_below _ _ _ _ _ _ l (run_past _ _ _ _ (Some q) _ _ _ (omega arith) is (run_past _ _ _ _ (Some next.0) _ _ _ (omega arith) (second t (Some q) is next.0 next.1) (run_nil _))))
            (run_past _ _ _ _ (Some q) _ _ _ (omega arith) is (run_below _ _ _ _ _ _ l (run_past _ _ _ _ (Some next.0) _ _ _ (omega arith) (second t (Some q) is next.0 next.1) (run_nil _))))
            (xzy [] [] a next.0 q (past_a t (Some q) is next.0 next.1) (omega (arith, zq, next.2)))

-- where y is appended, so is a greater letter after it
none_after : (y z : ℕ) (r : List ℕ) → y < z → (enter_row y r).leaves ≡ None → (enter_row z (enter_row y r).row).leaves ≡ None
none_after y z [] h e = rw (ge_is z y (omega arith)) refl
none_after y z (b ∷ r) h e = go (cases_lt y b) e (λ k. none_after y z r h k)
  where
    go : (y < b) ⊎ (b ≤ y) → (enter_row y (b ∷ r)).leaves ≡ None → ((enter_row y r).leaves ≡ None → (enter_row z (enter_row y r).row).leaves ≡ None)
        → (enter_row z (enter_row y (b ∷ r)).row).leaves ≡ None
    go (inl l) e ih = let c : (enter_row y (b ∷ r)).leaves ≡ Some b = ap (λ (n : Entered). n.leaves) (enter-below y b r l) in absurd (cc)
    go (inr l) e ih =
        let c : (enter_row y (b ∷ r)).leaves ≡ (enter_row y r).leaves = ap (λ (n : Entered). n.leaves) (enter-above y b r l) in
        ap (λ (n : Entered). (enter_row z n.row).leaves) (enter-above y b r l) ∙ ap (λ (n : Entered). n.leaves) (enter-above z b (enter_row y r).row (omega arith)) ∙ ih (sym c ∙ e)

-- what a greater letter after y makes leave is past what y made leave
rising_leaves : (y z m : ℕ) (r : List ℕ) → y < z → RisingRow r → (enter_row y r).leaves ≡ Some m → LeavesAbove m (enter_row z (enter_row y r).row).leaves
rising_leaves y z m [] h up e = absurd (cc)
rising_leaves y z m (b ∷ r) h up e = go (cases_lt y b) e (λ k. rising_leaves y z m r h up.1 k)
  where
    go : (y < b) ⊎ (b ≤ y) → (enter_row y (b ∷ r)).leaves ≡ Some m → ((enter_row y r).leaves ≡ Some m → LeavesAbove m (enter_row z (enter_row y r).row).leaves)
        → LeavesAbove m (enter_row z (enter_row y (b ∷ r)).row).leaves
    go (inl l) e ih =
        let c : (enter_row y (b ∷ r)).leaves ≡ Some b = ap (λ (n : Entered). n.leaves) (enter-below y b r l) in
        let q : b ≡ m = cc in
        let out : (enter_row z (enter_row y (b ∷ r)).row).leaves ≡ (enter_row z r).leaves
        = ap (λ (n : Entered). (enter_row z n.row).leaves) (enter-below y b r l) ∙ ap (λ (n : Entered). n.leaves) (enter-above z y r (omega arith)) in
        let P : Option ℕ → Type 0 = λ (o : Option ℕ). LeavesAbove m o in
        let Q : ℕ → Type 0 = λ (k : ℕ). LeavesAbove k (enter_row z r).leaves in
        subst P (sym out) (subst Q q (leaves-above b z r up.0))
    go (inr l) e ih =
        let c : (enter_row y (b ∷ r)).leaves ≡ (enter_row y r).leaves = ap (λ (n : Entered). n.leaves) (enter-above y b r l) in
        let out : (enter_row z (enter_row y (b ∷ r)).row).leaves ≡ (enter_row z (enter_row y r).row).leaves
        = ap (λ (n : Entered). (enter_row z n.row).leaves) (enter-above y b r l) ∙ ap (λ (n : Entered). n.leaves) (enter-above z b (enter_row y r).row (omega arith)) in
        let P : Option ℕ → Type 0 = λ (o : Option ℕ). LeavesAbove m o in
        subst P (sym out) (ih (sym c ∙ e))

-- the move yxz, yzx at a row
pub knuth_2 : (x y z : ℕ) (r : List ℕ) → x < y → y < z → RisingRow r → Apart x r → Apart y r → Alike (y ∷ x ∷ z ∷ []) (y ∷ z ∷ x ∷ []) r
knuth_2 x y z [] h k up ax ay =
    alike_of _ _ [] (y ∷ []) (y ∷ []) (x ∷ z ∷ [])
    (run_end _ _ _ _ (run_below _ _ _ _ _ _ h (run_past _ _ _ _ None _ _ _ (omega arith) refl (run_nil _))))
    (run_end _ _ _ _ (run_past _ _ _ _ None _ _ _ (omega arith) refl (run_below _ _ _ _ _ _ h (run_nil _))))
    (still (y ∷ []))
knuth_2 x y z (a ∷ r) h k up ax ay =
    elim (cases_lt x a) [
      | inl l ↦ elim (cases_lt y a) [
        | inl m ↦ low l m (enter_row z r).leaves (enter_row z r).row refl (leaves-above a z r up.0)
        | inr m ↦ mid l (apart_lt a y m ay.0) (enter_row y r).leaves (enter_row y r).row refl (enter_row z (enter_row y r).row).leaves (enter_row z (enter_row y r).row).row refl
            (leaves-above a y r up.0) (none_after y z r k) (λ n. rising_leaves y z n r k up.1)
      ]
      | inr l ↦ (let strict : a < x = apart_lt a x l ax.0 in alike-above a (y ∷ x ∷ z ∷ []) (y ∷ z ∷ x ∷ []) r (omega arith, (strict, (omega arith, tt))) (omega arith, (omega arith, (strict, tt))) (knuth_2 x y z r h k up.1 ax.1 ay.1))
    ]
  where
    low : x < a → y < a → (o : Option ℕ) (t : List ℕ) → enter_row z r ≡ record { leaves = o; row = t } → LeavesAbove a o → Alike (y ∷ x ∷ z ∷ []) (y ∷ z ∷ x ∷ []) (a ∷ r)
    low l m None t is past =
        alike_of _ _ (a ∷ r) (a ∷ y ∷ []) (a ∷ y ∷ []) (x ∷ t)
        (run_below _ _ _ _ _ _ m (run_below _ _ _ _ _ _ h (run_past _ _ _ _ None _ _ _ (omega arith) is (run_nil _))))
        (run_below _ _ _ _ _ _ m (run_past _ _ _ _ None _ _ _ (omega arith) is (run_below _ _ _ _ _ _ h (run_nil _))))
        (still (a ∷ y ∷ []))
    low l m (Some q) t is past =
        alike_of _ _ (a ∷ r) (a ∷ y ∷ q ∷ []) (a ∷ q ∷ y ∷ []) (x ∷ t)
        (run_below _ _ _ _ _ _ m (run_below _ _ _ _ _ _ h (run_past _ _ _ _ (Some q) _ _ _ (omega arith) is (run_nil _))))
        (run_below _ _ _ _ _ _ m (run_past _ _ _ _ (Some q) _ _ _ (omega arith) is (run_below _ _ _ _ _ _ h (run_nil _))))
        (yxz [] [] y a q m past)

    mid : x < a → a < y → (o : Option ℕ) (t : List ℕ) → enter_row y r ≡ record { leaves = o; row = t } → (p : Option ℕ) (s : List ℕ) → enter_row z t ≡ record { leaves = p; row = s }
        → LeavesAbove a o → (o ≡ None → p ≡ None) → ((n : ℕ) → o ≡ Some n → LeavesAbove n p) → Alike (y ∷ x ∷ z ∷ []) (y ∷ z ∷ x ∷ []) (a ∷ r)
    mid l m o t is None s next past none some =
        alike_of _ _ (a ∷ r) (before o (a ∷ [])) (before o (a ∷ [])) (x ∷ s)
        (run_past _ _ _ _ o _ _ _ (omega arith) is (run_below _ _ _ _ _ _ l (run_past _ _ _ _ None _ _ _ (omega arith) next (run_nil _))))
        (run_past _ _ _ _ o _ _ _ (omega arith) is (run_past _ _ _ _ None _ _ _ (omega arith) next (run_below _ _ _ _ _ _ l (run_nil _))))
        (still (before o (a ∷ [])))
    mid l m None t is (Some q) s next past none some = absurd (let e : Some q ≡ None = none refl in cc)
    mid l m (Some n) t is (Some q) s next past none some =
        alike_of _ _ (a ∷ r) (n ∷ a ∷ q ∷ []) (n ∷ q ∷ a ∷ []) (x ∷ s)
        (run_past _ _ _ _ (Some n) _ _ _ (omega arith) is (run_below _ _ _ _ _ _ l (run_past _ _ _ _ (Some q) _ _ _ (omega arith) next (run_nil _))))
        (run_past _ _ _ _ (Some n) _ _ _ (omega arith) is (run_past _ _ _ _ (Some q) _ _ _ (omega arith) next (run_below _ _ _ _ _ _ l (run_nil _))))
        (yxz [] [] a n q past (some n refl))
