-- Row insertion on numbers of rows: each letter that leaves a row goes on to the next (Schensted 1961).
use Rattle.std.proofs.Common.{◌≡◌, ℕ, zero, suc, ◌+◌, ◌-◌, ◌<◌, Bool, true, false, List, [], ◌∷◌, ◌++◌, map, length, refl, sym, ◌∙◌, ap, arith, inl, inr, append_assoc}
use Rattle.std.specs.Prelude.{max, nat_eq, if◌then◌else◌, Some, None}
use Rattle.std.specs.List.{range_with_len}
use Rattle.std.proofs.lemmas.Bool.{cases_eq, eq-eqb, eqb-true, ne_eqb}
use Rattle.std.proofs.lemmas.List.{append-nil}
use Rattle.realisations.specs.Tableaux.{Entered, enter_row, enter}
use Rattle.realisations.specs.Words.{greatest}
use Rattle.realisations.proofs.RisingMaps.{Letters}
use Rattle.basis_representatives.proofs.Entries.{enter-above, enter-below}
use Rattle.basis_representatives.proofs.Letters.{Letters-append}
use Rattle.basis_representatives.proofs.RowByRow.{Above, RisingRow}
use Rattle.basis_representatives.proofs.SameLists.{cons_same}
use Rattle.word_laws.proofs.SpreadParts.{greatest-append}
use Rattle.tableau_laws.specs.NumberedRows.{letters_in, rows_by, bumped}
use Rattle.tableau_laws.proofs.NumberedRows.{Letters-letters_in, letters_in-append, letters_in-here, letters_in-none, letters_in-there, map_range_alike}

-- each letter is smaller than x
abbrev pub Below : ℕ → List ℕ → Type 0
Below x w = Letters (λ a. a < x) w

-- a letter goes past smaller ones
enter_row-past : (x : ℕ) (u row : List ℕ) → Below x u → enter_row x (u ++ row) ≡ record { leaves = (enter_row x row).leaves; row = u ++ (enter_row x row).row }
enter_row-past x [] row h = refl
enter_row-past x (a ∷ u) row h =
    enter-above x a (u ++ row) (omega (arith, h.0))
    ∙ ap (λ (e : Entered). let m : Entered = record { leaves = e.leaves; row = a ∷ e.row } in m) (enter_row-past x u row h.1)

-- the rest of a row does not see what goes on to a later row
letters_in-bumped : (r s : ℕ) (letters code : List ℕ) → r < s → letters_in r letters (bumped s code) ≡ letters_in r letters code
letters_in-bumped r s [] code h = refl
letters_in-bumped r s (x ∷ letters) [] h = refl
letters_in-bumped r s (x ∷ letters) (c ∷ code) h = by_test (nat_eq c s) refl (letters_in-bumped r (suc s) letters code (omega (arith, h))) (letters_in-bumped r s letters code h)
  where
    same_test : (b : Bool) → letters_in r letters (bumped s code) ≡ letters_in r letters code
        → (if b then x ∷ letters_in r letters (bumped s code) else letters_in r letters (bumped s code)) ≡ (if b then x ∷ letters_in r letters code else letters_in r letters code)
    same_test true ih = ap (λ w. x ∷ w) ih
    same_test false ih = ih

    by_test : (b : Bool) → nat_eq c s ≡ b → letters_in r letters (bumped (suc s) code) ≡ letters_in r letters code → letters_in r letters (bumped s code) ≡ letters_in r letters code
        → letters_in r (x ∷ letters) (if b then suc s ∷ bumped (suc s) code else c ∷ bumped s code) ≡ letters_in r (x ∷ letters) (c ∷ code)
    by_test true e next ih =
        let same = eqb-true c s e in
        letters_in-there r x letters (suc s) (bumped (suc s) code) (λ k. absurd (omega (arith, k, h)))
        ∙ next ∙ sym (letters_in-there r x letters c code (λ k. absurd (omega (arith, k, same, h))))
    by_test false e next ih = same_test (nat_eq c r) ih

-- where nothing stands in a row or past it, nothing goes on
bumped-none : (s : ℕ) (code : List ℕ) → greatest code < s → bumped s code ≡ code
bumped-none s [] h = refl
bumped-none s (c ∷ code) h = rw (ne_eqb c s (λ e. absurd (omega (arith, e, h)))) (ap (λ w. c ∷ w) (bumped-none s code (omega (arith, h))))

-- rows with earlier letters in front, by what stands in front in each row
abbrev fronted : (ℕ → List ℕ) → ℕ → ℕ → List ℕ → List ℕ → List (List ℕ)
fronted front s k letters code = map (λ r. front r ++ letters_in r letters code) (range_with_len s k)

-- each of the letters is greater than all in front
abbrev ArePast : (ℕ → List ℕ) → List ℕ → Type 0
ArePast front letters = Letters (λ y. (r : ℕ) → Below y (front r)) letters

-- the front with one letter more in row c
abbrev longer : (ℕ → List ℕ) → ℕ → ℕ → ℕ → List ℕ
longer front c y r = front r ++ (if nat_eq c r then y ∷ [] else [])

-- the same row with the first letter in front
longer_front : (front : ℕ → List ℕ) (c y r : ℕ) (letters code : List ℕ) → longer front c y r ++ letters_in r letters code ≡ front r ++ letters_in r (y ∷ letters) (c ∷ code)
longer_front front c y r letters code = by_test (nat_eq c r)
  where
    by_test : (b : Bool) → (front r ++ (if b then y ∷ [] else [])) ++ letters_in r letters code ≡ front r ++ (if b then y ∷ letters_in r letters code else letters_in r letters code)
    by_test true = append_assoc (front r) (y ∷ []) (letters_in r letters code)
    by_test false = ap (λ w. w ++ letters_in r letters code) (append-nil (front r))

-- a letter of another row may as well come before x, which is in row s
longer_before : (front : ℕ → List ℕ) (c y s x r : ℕ) (letters code : List ℕ) → (c ≡ s → ⊥)
    → longer front c y r ++ letters_in r (x ∷ letters) (s ∷ code) ≡ front r ++ letters_in r (x ∷ y ∷ letters) (s ∷ c ∷ code)
longer_before front c y s x r letters code n = elim (cases_eq s r) [
  | inl same ↦
      (let other : c ≡ r → ⊥ = λ e. n (e ∙ sym same) in
      longer_front front c y r (x ∷ letters) (s ∷ code)
      ∙ ap (λ w. front r ++ w)
      (letters_in-there r y (x ∷ letters) c (s ∷ code) other
      ∙ letters_in-here r x letters s code same
      ∙ ap (λ w. x ∷ w) (sym (letters_in-there r y letters c code other))
      ∙ sym (letters_in-here r x (y ∷ letters) s (c ∷ code) same)))
  | inr apart ↦
      longer_front front c y r (x ∷ letters) (s ∷ code)
      ∙ ap (λ w. front r ++ w) (first_last apart (nat_eq c r) (letters_in-there r x letters s code apart) ∙ sym (letters_in-there r x (y ∷ letters) s (c ∷ code) apart))
]
  where
    first_last : (s ≡ r → ⊥) → (b : Bool) → letters_in r (x ∷ letters) (s ∷ code) ≡ letters_in r letters code
        → (if b then y ∷ letters_in r (x ∷ letters) (s ∷ code) else letters_in r (x ∷ letters) (s ∷ code)) ≡ (if b then y ∷ letters_in r letters code else letters_in r letters code)
    first_last apart true e = ap (λ w. y ∷ w) e
    first_last apart false e = e

-- the letters stay past the longer front
past_longer : (front : ℕ → List ℕ) (c y : ℕ) (letters : List ℕ) → Above y letters → ArePast front letters → ArePast (λ r. longer front c y r) letters
past_longer front c y [] up h = tt
past_longer front c y (z ∷ letters) up h =
    ((λ r. Letters-append (λ a. a < z) (front r) (if nat_eq c r then y ∷ [] else []) (h.0 r) (one r (nat_eq c r))), past_longer front c y letters up.1 h.1)
  where
    one : (r : ℕ) → (b : Bool) → Below z (if b then y ∷ [] else [])
    one r true = (up.0, tt)
    one r false = tt

-- a letter that enters the first of some rows: its own row, and what it leaves enters the others
enter_first : (x : ℕ) (row : List ℕ) (rows : List (List ℕ)) (e : Entered) → enter_row x row ≡ e → enter (Some x) (row ∷ rows) ≡ e.row ∷ enter e.leaves rows
enter_first x row rows e h = ap (λ (t : Entered). t.row ∷ enter t.leaves rows) h

-- a letter enters row s, behind the smaller ones in front and before the greater ones behind
entered_rows : (front : ℕ → List ℕ) (m : ℕ) → ((r : ℕ) → m < r → front r ≡ []) → (s k x : ℕ) (letters code : List ℕ) → length letters ≡ length code
    → Below x (front s) → Above x letters → RisingRow letters → ArePast front letters → k ≡ suc (max m (greatest code)) - s
    → (k' : ℕ) → k' ≡ suc (max m (max s (greatest (bumped s code)))) - s
    → enter (Some x) (fronted front s k letters code) ≡ fronted front s k' (x ∷ letters) (s ∷ bumped s code)
entered_rows front m none s k x (y ∷ letters) [] e below above rising past size k' size' = absurd (omega (arith, e))
entered_rows front m none s k x [] (c ∷ code) e below above rising past size k' size' = absurd (omega (arith, e))
entered_rows front m none s zero x [] [] e below above rising past size k' size' =
    let one : k' ≡ suc 0 = omega (arith, size, size') in
    let first : x ∷ [] ≡ front s ++ letters_in s (x ∷ []) (s ∷ []) =
    sym (letters_in-here s x [] s [] refl) ∙ ap (λ w. w ++ letters_in s (x ∷ []) (s ∷ [])) (sym (none s (omega (arith, size)))) in
    cons_same first refl ∙ ap (λ n. fronted front s n (x ∷ []) (s ∷ [])) (sym one)
entered_rows front m none s (suc k) x [] [] e below above rising past size k' size' =
    let same : k' ≡ suc k = omega (arith, size, size') in
    let last : enter_row x (front s ++ []) ≡ record { leaves = None; row = front s ++ (x ∷ []) } = enter_row-past x (front s) [] below in
    enter_first x (front s ++ []) (fronted front (s + 1) k [] []) (record { leaves = None; row = front s ++ (x ∷ []) }) last
    ∙ cons_same (ap (λ w. front s ++ w) (sym (letters_in-here s x [] s [] refl)))
    (map_range_alike (λ r. front r ++ []) (λ r. front r ++ letters_in r (x ∷ []) (s ∷ [])) (s + 1) k
    (λ r from to. ap (λ w. front r ++ w) (sym (letters_in-there r x [] s [] (λ q. absurd (omega (arith, q, from)))))))
    ∙ ap (λ n. fronted front s n (x ∷ []) (s ∷ [])) (sym same)
entered_rows front m none s k x (y ∷ letters) (c ∷ code) e below above rising past size k' size' = elim (cases_eq c s) [
  | inl same ↦ stops same k size (λ j j' size size'. entered_rows front m none (suc s) j y letters code (omega (arith, e)) (past.0 (suc s)) rising.0 rising.1 past.1 size j' size')
  | inr other ↦
      (let ih = entered_rows (λ r. longer front c y r) (max m c) (λ r lt. none_longer r lt) s k x letters code (omega (arith, e))
      (Letters-append (λ a. a < x) (front s) (if nat_eq c s then y ∷ [] else []) below (nothing other)) above.1 rising.1 (past_longer front c y letters rising.0 past.1)
      (omega (arith, size)) k' (size' ∙ ap (λ w. suc (max m (max s (greatest w))) - s) (goes_by other) ∙ omega arith) in
      ap (enter (Some x)) (map_range_alike (λ r. front r ++ letters_in r (y ∷ letters) (c ∷ code)) (λ r. longer front c y r ++ letters_in r letters code) s k (λ r from to. sym (longer_front front c y r letters code)))
      ∙ ih
      ∙ map_range_alike (λ r. longer front c y r ++ letters_in r (x ∷ letters) (s ∷ bumped s code)) (λ r. front r ++ letters_in r (x ∷ y ∷ letters) (s ∷ c ∷ bumped s code)) s k'
      (λ r from to. longer_before front c y s x r letters (bumped s code) other)
      ∙ ap (λ w. fronted front s k' (x ∷ y ∷ letters) (s ∷ w)) (sym (goes_by other)))
]
  where
    goes_by : (c ≡ s → ⊥) → bumped s (c ∷ code) ≡ c ∷ bumped s code
    goes_by other = rw (ne_eqb c s other) refl

    goes_on : c ≡ s → bumped s (c ∷ code) ≡ suc s ∷ bumped (suc s) code
    goes_on same = rw (eq-eqb c s same) refl

    nothing : (c ≡ s → ⊥) → Below x (if nat_eq c s then y ∷ [] else [])
    nothing other = rw (ne_eqb c s other) tt

    none_longer : (r : ℕ) → max m c < r → longer front c y r ≡ []
    none_longer r lt =
        let apart : nat_eq c r ≡ false = ne_eqb c r (λ q. absurd (omega (arith, q, lt))) in
        rw apart (append-nil (front r) ∙ none r (omega (arith, lt)))

    own_row : c ≡ s → front s ++ (x ∷ letters_in s letters code) ≡ front s ++ letters_in s (x ∷ y ∷ letters) (s ∷ bumped s (c ∷ code))
    own_row same =
        ap (λ w. front s ++ w)
        (ap (λ w. x ∷ w)
        (sym (letters_in-bumped s (suc s) letters code (omega arith))
        ∙ sym (letters_in-there s y letters (suc s) (bumped (suc s) code) (λ q. absurd (omega (arith, q))))
        ∙ ap (λ w. letters_in s (y ∷ letters) w) (sym (goes_on same)))
        ∙ sym (letters_in-here s x (y ∷ letters) s (bumped s (c ∷ code)) refl))

    others : c ≡ s → (k j' : ℕ) → suc s ≡ s + 1 → enter (Some y) (fronted front (suc s) k letters code) ≡ fronted front (suc s) j' (y ∷ letters) (suc s ∷ bumped (suc s) code)
        → enter (Some y) (fronted front (s + 1) k (y ∷ letters) (c ∷ code)) ≡ fronted front (s + 1) j' (x ∷ y ∷ letters) (s ∷ bumped s (c ∷ code))
    others same k j' next ih =
        ap (enter (Some y)) (map_range_alike (λ r. front r ++ letters_in r (y ∷ letters) (c ∷ code)) (λ r. front r ++ letters_in r letters code) (s + 1) k
        (λ r from to. ap (λ w. front r ++ w) (letters_in-there r y letters c code (λ q. absurd (omega (arith, q, same, from))))))
        ∙ ap (λ n. enter (Some y) (fronted front n k letters code)) (sym next)
        ∙ ih
        ∙ ap (λ n. fronted front n j' (y ∷ letters) (suc s ∷ bumped (suc s) code)) next
        ∙ map_range_alike (λ r. front r ++ letters_in r (y ∷ letters) (suc s ∷ bumped (suc s) code)) (λ r. front r ++ letters_in r (x ∷ y ∷ letters) (s ∷ bumped s (c ∷ code))) (s + 1) j'
        (λ r from to.
        ap (λ w. front r ++ w)
        (ap (λ w. letters_in r (y ∷ letters) w) (sym (goes_on same)) ∙ sym (letters_in-there r x (y ∷ letters) s (bumped s (c ∷ code)) (λ q. absurd (omega (arith, q, from))))))

    stops : c ≡ s → (k : ℕ) → k ≡ suc (max m (max c (greatest code))) - s
        → ((j j' : ℕ) → j ≡ suc (max m (greatest code)) - suc s → j' ≡ suc (max m (max (suc s) (greatest (bumped (suc s) code)))) - suc s
        → enter (Some y) (fronted front (suc s) j letters code) ≡ fronted front (suc s) j' (y ∷ letters) (suc s ∷ bumped (suc s) code))
        → enter (Some x) (fronted front s k (y ∷ letters) (c ∷ code)) ≡ fronted front s k' (x ∷ y ∷ letters) (s ∷ bumped s (c ∷ code))
    stops same zero size each = absurd (omega (arith, size, same))
    stops same (suc k) size each =
        let sized : k' ≡ suc (max m (max s (max (suc s) (greatest (bumped (suc s) code))))) - s = size' ∙ ap (λ w. suc (max m (max s (greatest w))) - s) (goes_on same) in
        let j' = suc (max m (max (suc s) (greatest (bumped (suc s) code)))) - suc s in
        let one_more : k' ≡ suc j' = omega (arith, sized) in
        let leaves : enter_row x (front s ++ letters_in s (y ∷ letters) (c ∷ code)) ≡ record { leaves = Some y; row = front s ++ (x ∷ letters_in s letters code) } =
        ap (λ w. enter_row x (front s ++ w)) (letters_in-here s y letters c code same)
        ∙ enter_row-past x (front s) (y ∷ letters_in s letters code) below
        ∙ ap (λ (e : Entered). let m : Entered = record { leaves = e.leaves; row = front s ++ e.row } in m) (enter-below x y (letters_in s letters code) above.0) in
        let next : suc s ≡ s + 1 = omega arith in
        enter_first x (front s ++ letters_in s (y ∷ letters) (c ∷ code)) (fronted front (s + 1) k (y ∷ letters) (c ∷ code)) (record { leaves = Some y; row = front s ++ (x ∷ letters_in s letters code) }) leaves
        ∙ cons_same (own_row same) (others same k j' next (each k j' (omega (arith, size, same)) refl))
        ∙ ap (λ n. fronted front s n (x ∷ y ∷ letters) (s ∷ bumped s (c ∷ code))) (sym one_more)

-- letters greater than all of a front are past its rows
past_letters : (u cu v : List ℕ) → Letters (λ y. Below y u) v → ArePast (λ r. letters_in r u cu) v
past_letters u cu [] h = tt
past_letters u cu (y ∷ v) h = ((λ r. Letters-letters_in (λ a. a < y) r u cu h.0), past_letters u cu v h.1)

-- a letter enters rows by their numbers: it stands between the smaller letters and the greater ones, in row 1, and bumps the greater ones
pub enter-rows_by : (x : ℕ) (u v cu cv : List ℕ) → length u ≡ length cu → length v ≡ length cv → Below x u → Above x v → RisingRow v → Letters (λ y. Below y u) v
    → enter (Some x) (rows_by (u ++ v) (cu ++ cv)) ≡ rows_by (u ++ (x ∷ v)) (cu ++ (1 ∷ bumped 1 cv))
enter-rows_by x u v cu cv eu ev below above rising past =
    ap (enter (Some x)) (map_range_alike (λ r. letters_in r (u ++ v) (cu ++ cv)) (λ r. letters_in r u cu ++ letters_in r v cv) 1 (greatest (cu ++ cv)) (λ r from to. letters_in-append r u v cu cv eu))
    ∙ entered_rows (λ r. letters_in r u cu) (greatest cu) (λ r lt. letters_in-none r u cu lt) 1 (greatest (cu ++ cv)) x v cv ev
    (Letters-letters_in (λ a. a < x) 1 u cu below) above rising (past_letters u cu v past)
    (omega (arith, greatest-append cu cv)) (greatest (cu ++ (1 ∷ bumped 1 cv))) (omega (arith, greatest-append cu (1 ∷ bumped 1 cv)))
    ∙ map_range_alike (λ r. letters_in r u cu ++ letters_in r (x ∷ v) (1 ∷ bumped 1 cv)) (λ r. letters_in r (u ++ (x ∷ v)) (cu ++ (1 ∷ bumped 1 cv))) 1 (greatest (cu ++ (1 ∷ bumped 1 cv)))
    (λ r from to. sym (letters_in-append r u (x ∷ v) cu (1 ∷ bumped 1 cv) eu))
