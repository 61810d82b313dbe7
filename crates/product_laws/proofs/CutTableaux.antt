-- The tableau of the letters up to m of a permutation is its tableau cut at m, so its code is the front of the code.
use Rattle.std.proofs.Common.{◌≡◌, ℕ, suc, ◌+◌, ◌<◌, ◌≤◌, Bool, true, false, List, [], ◌∷◌, map, length, take, refl, sym, ◌∙◌, ap, subst, arith, inl, inr}
use Rattle.std.specs.Prelude.{nat_eq, nat_le, ◌||◌, if◌then◌else◌, Option, Some, None}
use Rattle.std.specs.List.{concat, range_with_len}
use Rattle.std.proofs.lemmas.Bool.{cases_lt}
use Rattle.std.proofs.lemmas.Bool.Decides.{nat_tests}
use Rattle.std.proofs.lemmas.List.FromFn.{take-map-range_with_len}
use Rattle.realisations.specs.Lists.{is_among}
use Rattle.realisations.specs.Standardisation.{count_same}
use Rattle.realisations.specs.Tableaux.{Entered, enter_row, enter, enter_all, insertion_tableau, row_of, tableau_code}
use Rattle.basis_representatives.proofs.Counts.{among_some, count_same-append, one_if-self}
use Rattle.basis_representatives.proofs.Entries.{apart-count, count_option, count_same-enter, count_same-enter_all, count_same-enter_row, enter-above, enter-below, length-enter_all, rising-enter_row}
use Rattle.basis_representatives.proofs.Permutations.{HasEachOnce, count_same-permutation}
use Rattle.basis_representatives.proofs.RowByRow.{Above, RisingRow}
use Rattle.coproduct_laws.specs.ValueCuts.{letters_up_to}
use Rattle.coproduct_laws.proofs.CutLetters.{count_up_to}
use Rattle.tableau_laws.proofs.NumberedRows.{map_range_alike}

-- each row rises
abbrev RowsRise : List (List ℕ) → Type 0
RowsRise [] = Unit {0}
RowsRise (r ∷ rows) = RisingRow r × RowsRise rows

-- no letter stands twice in the rows and what enters them
abbrev Fresh : Option ℕ → List (List ℕ) → Type 0
Fresh o rows = (k : ℕ) → count_option k o + count_same k (concat rows) ≤ 1

enter-rise : (o : Option ℕ) (rows : List (List ℕ)) → RowsRise rows → Fresh o rows → RowsRise (enter o rows)
enter-rise None rows up f = up
enter-rise (Some x) [] up f = ((tt, tt), tt)
enter-rise (Some x) (r ∷ rows) up f = (
  rising-enter_row x r up.0 (apart-count x r (omega (arith, f x, one_if-self x, count_same-append x r (concat rows)))),
  enter-rise (enter_row x r).leaves rows up.1 (λ k. omega (arith, f k, count_same-enter_row k x r, count_same-append k r (concat rows))),
)

-- rows without letters
abbrev AreEmpty : List (List ℕ) → Type 0
AreEmpty [] = Unit {0}
AreEmpty ([] ∷ rows) = AreEmpty rows
AreEmpty ((x ∷ r) ∷ rows) = ⊥

-- the second rows are the first ones, and after them rows without letters
abbrev IsPadded : List (List ℕ) → List (List ℕ) → Type 0
IsPadded [] rows = AreEmpty rows
IsPadded (r ∷ rows) [] = ⊥
IsPadded (r ∷ rows) (r' ∷ rows') = (r ≡ r') × IsPadded rows rows'

-- rows are padded by nothing
padded-same : (rows : List (List ℕ)) → IsPadded rows rows
padded-same [] = tt
padded-same (r ∷ rows) = (refl, padded-same rows)

-- rows without letters are padded by such rows
empty-padded : (rows rows' : List (List ℕ)) → AreEmpty rows → IsPadded rows rows' → AreEmpty rows'
empty-padded [] rows' h k = k
empty-padded (r ∷ rows) [] h k = absurd k
empty-padded ([] ∷ rows) ([] ∷ rows') h k = empty-padded rows rows' h k.1
empty-padded ([] ∷ rows) ((x ∷ r') ∷ rows') h k = let e = k.0 in absurd (cc)
empty-padded ((x ∷ r) ∷ rows) (r' ∷ rows') h k = absurd h

-- padded twice
padded-trans : (a b c : List (List ℕ)) → IsPadded a b → IsPadded b c → IsPadded a c
padded-trans [] b c h k = empty-padded b c h k
padded-trans (r ∷ a) [] c h k = absurd h
padded-trans (r ∷ a) (r' ∷ b) [] h k = absurd k
padded-trans (r ∷ a) (r' ∷ b) (r'' ∷ c) h k = (h.0 ∙ k.0, padded-trans a b c h.1 k.1)

-- a letter enters both in the same way
enter-padded : (o : Option ℕ) (a b : List (List ℕ)) → IsPadded a b → IsPadded (enter o a) (enter o b)
enter-padded None a b h = h
enter-padded (Some x) [] [] h = (refl, tt)
enter-padded (Some x) [] ([] ∷ b) h = (refl, h)
enter-padded (Some x) [] ((y ∷ r) ∷ b) h = absurd h
enter-padded (Some x) (r ∷ a) [] h = absurd h
enter-padded (Some x) (r ∷ a) (r' ∷ b) h =
    (ap (λ r. (enter_row x r).row) h.0, moved (enter-padded (enter_row x r).leaves a b h.1))
  where
    moved : IsPadded (enter (enter_row x r).leaves a) (enter (enter_row x r).leaves b) → IsPadded (enter (enter_row x r).leaves a) (enter (enter_row x r').leaves b)
    moved k = subst (λ s. IsPadded (enter (enter_row x r).leaves a) (enter (enter_row x s).leaves b)) h.0 k

module _ (m : ℕ) where
  -- a row cut at m
  abbrev low : List ℕ → List ℕ
  low r = letters_up_to m r

  -- rows cut at m
  abbrev cut : List (List ℕ) → List (List ℕ)
  cut rows = map (λ r. low r) rows

  -- a letter, if it is up to m
  abbrev low_option : Option ℕ → Option ℕ
  low_option None = None
  low_option (Some x) = if nat_le x m then Some x else None

  -- the test of a letter up to m
  is_low : (x : ℕ) → x ≤ m → nat_le x m ≡ true
  is_low x h = grind (arith, nat_tests)

  -- and of one past m
  is_high : (x : ℕ) → m < x → nat_le x m ≡ false
  is_high x h = grind (arith, nat_tests)

  -- nothing is left of a row past m
  none_low : (y : ℕ) (r : List ℕ) → m < y → Above y r → low r ≡ []
  none_low y [] h k = refl
  none_low y (z ∷ r) h k = rw (is_high z (omega (arith, h, k.0))) (none_low y r h k.1)

  -- what a letter makes of a row, cut at m
  abbrev CutsTo : Entered → Entered → Type 0
  CutsTo e e' = (low e.row ≡ e'.row) × (low_option e.leaves ≡ e'.leaves)

  -- a letter up to m enters a rising row as it enters the row cut at m
  enter_low : (x : ℕ) (r : List ℕ) → x ≤ m → RisingRow r → CutsTo (enter_row x r) (enter_row x (low r))
  enter_low x [] h up = (rw (is_low x h) refl, refl)
  enter_low x (y ∷ r) h up = elim (cases_lt x y) [
    | inl less ↦ elim (cases_lt m y) [
      | inl past ↦ subst (λ e. CutsTo e (enter_row x (low (y ∷ r)))) (sym (enter-below x y r less)) (rw (is_low x h, is_high y past, none_low y r past up.0) (refl, refl))
      | inr within ↦ subst (λ e. CutsTo e (enter_row x (low (y ∷ r)))) (sym (enter-below x y r less))
          (rw (is_low x h, is_low y within) (subst (λ e. (x ∷ low r ≡ e.row) × (Some y ≡ e.leaves)) (sym (enter-below x y (low r) less)) (refl, refl)))
    ]
    | inr le ↦ (let ih = enter_low x r h up.1 in
        subst (λ e. CutsTo e (enter_row x (low (y ∷ r)))) (sym (enter-above x y r le))
        (rw (is_low y (omega (arith, le, h)))
        (subst (λ e. (y ∷ low (enter_row x r).row ≡ e.row) × (low_option (enter_row x r).leaves ≡ e.leaves)) (sym (enter-above x y (low r) le)) (ap (λ w. y ∷ w) ih.0, ih.1))))
  ]

  -- a letter past m changes nothing up to m
  enter_high : (x : ℕ) (r : List ℕ) → m < x → (low (enter_row x r).row ≡ low r) × (low_option (enter_row x r).leaves ≡ None)
  enter_high x [] h = (rw (is_high x h) refl, refl)
  enter_high x (y ∷ r) h = elim (cases_lt x y) [
    | inl less ↦ subst (λ e. (low e.row ≡ low (y ∷ r)) × (low_option e.leaves ≡ None)) (sym (enter-below x y r less)) (rw (is_high x h, is_high y (omega (arith, h, less))) (refl, refl))
    | inr le ↦ (let ih = enter_high x r h in
        subst (λ e. (low e.row ≡ low (y ∷ r)) × (low_option e.leaves ≡ None)) (sym (enter-above x y r le)) (kept (nat_le y m) ih.0, ih.1))
  ]
    where
      kept : (b : Bool) → low (enter_row x r).row ≡ low r → (if b then y ∷ low (enter_row x r).row else low (enter_row x r).row) ≡ (if b then y ∷ low r else low r)
      kept true e = ap (λ w. y ∷ w) e
      kept false e = e

  -- so a letter enters rows cut at m as it enters the rows
  enter_cut : (o : Option ℕ) (rows : List (List ℕ)) → RowsRise rows → IsPadded (enter (low_option o) (cut rows)) (cut (enter o rows))
  enter_cut None rows up = padded-same (cut rows)
  enter_cut (Some x) [] up = elim (cases_lt m x) [ inl past ↦ rw (is_high x past) tt | inr within ↦ rw (is_low x within) (refl, tt) ]
  enter_cut (Some x) (r ∷ rows) up = elim (cases_lt m x) [
    | inl past ↦ (let e = enter_high x r past in
        let ih = enter_cut (enter_row x r).leaves rows up.1 in
        rw (is_high x past) (sym e.0, subst (λ o. IsPadded (enter o (cut rows)) (cut (enter (enter_row x r).leaves rows))) e.1 ih))
    | inr within ↦ (let e = enter_low x r within up.0 in
        let ih = enter_cut (enter_row x r).leaves rows up.1 in
        rw (is_low x within) (sym e.0, subst (λ o. IsPadded (enter o (cut rows)) (cut (enter (enter_row x r).leaves rows))) e.1 ih))
  ]

  -- and so do words
  enter_all_cut : (w : List ℕ) (a rows : List (List ℕ)) → RowsRise rows → ((k : ℕ) → count_same k w + count_same k (concat rows) ≤ 1) → IsPadded a (cut rows)
      → IsPadded (enter_all (low w) a) (cut (enter_all w rows))
  enter_all_cut [] a rows up few h = h
  enter_all_cut (x ∷ w) a rows up few h =
      let fresh : Fresh (Some x) rows = λ k. omega (arith, few k) in
      let next = enter_all_cut w (enter (low_option (Some x)) a) (enter (Some x) rows) (enter-rise (Some x) rows up fresh) (λ k. omega (arith, few k, count_same-enter k (Some x) rows))
      (padded-trans (enter (low_option (Some x)) a) (enter (low_option (Some x)) (cut rows)) (cut (enter (Some x) rows)) (enter-padded (low_option (Some x)) a (cut rows) h) (enter_cut (Some x) rows up)) in
      by_test (nat_le x m) next
    where
      by_test : (b : Bool) → IsPadded (enter_all (low w) (enter (if b then Some x else None) a)) (cut (enter_all w (enter (Some x) rows)))
          → IsPadded (enter_all (if b then x ∷ low w else low w) a) (cut (enter_all w (enter (Some x) rows)))
      by_test true k = k
      by_test false k = k

  -- the row of a letter up to m
  among_low : (i : ℕ) (r : List ℕ) → i ≤ m → is_among i (low r) ≡ is_among i r
  among_low i [] h = refl
  among_low i (x ∷ r) h = elim (cases_lt m x) [
    | inl past ↦ (let other : nat_eq x i ≡ false = grind (arith, nat_tests, past, h) in rw (is_high x past, other) (among_low i r h))
    | inr within ↦ rw (is_low x within) (ap (λ b. nat_eq x i || b) (among_low i r h))
  ]

  -- a letter up to m stands in the same row of the rows cut at m
  row_of_cut : (i : ℕ) (rows : List (List ℕ)) → i ≤ m → row_of i (cut rows) ≡ row_of i rows
  row_of_cut i [] h = refl
  row_of_cut i (r ∷ rows) h = λ j. if among_low i r h j then 1 else suc (row_of_cut i rows h j)

-- a letter that is not there is not counted
absent : (i : ℕ) (w : List ℕ) → is_among i w ≡ false → count_same i w ≡ 0
absent i w e = elim (cases_lt 0 (count_same i w)) [
  | inl some ↦ absurd (both (is_among i w) e (among_some i w some))
  | inr none ↦ omega (arith, none)
]
  where
    both : (b : Bool) → b ≡ false → b ≡ true → ⊥
    both b f t = absurd (cc)

-- rows without letters after the others don't change the row of a letter
row_of_padded : (i : ℕ) (a b : List (List ℕ)) → IsPadded a b → 1 ≤ count_same i (concat a) → row_of i a ≡ row_of i b
row_of_padded i [] b h occurs = absurd (omega (arith, occurs))
row_of_padded i (r ∷ a) [] h occurs = absurd h
row_of_padded i (r ∷ a) (r' ∷ b) h occurs = by_test (is_among i r) refl (λ k. row_of_padded i a b h.1 k) ∙ ap (λ s. if is_among i s then 1 else suc (row_of i b)) h.0
  where
    by_test : (p : Bool) → is_among i r ≡ p → (1 ≤ count_same i (concat a) → row_of i a ≡ row_of i b) → row_of i (r ∷ a) ≡ (if is_among i r then 1 else suc (row_of i b))
    by_test true e ih = rw e refl
    by_test false e ih = rw e (ap suc (ih (omega (arith, occurs, absent i r e, count_same-append i r (concat a)))))

-- the code of P of the letters up to m of a permutation is the front of the code of its P
module _ (m : ℕ) (s : List ℕ) (hs : HasEachOnce s) (le : m ≤ length s) (size : length (letters_up_to m s) ≡ m) where
  -- each of them stands in its row
  row_low : (i : ℕ) → 1 ≤ i → i ≤ m → row_of i (insertion_tableau (letters_up_to m s)) ≡ row_of i (insertion_tableau s)
  row_low i from to =
      row_of_padded i (insertion_tableau (letters_up_to m s)) (cut m (insertion_tableau s))
      (enter_all_cut m s [] [] tt (λ k. omega (arith, count_same-permutation s hs k)) tt)
      (omega (arith, count_same-enter_all i (letters_up_to m s) [], count_up_to m i s to, hs.once i from (omega (arith, to, le))))
      ∙ row_of_cut m i (insertion_tableau s) to

  pub code-low : tableau_code (insertion_tableau (letters_up_to m s)) ≡ take m (tableau_code (insertion_tableau s))
  code-low =
      ap (λ n. map (λ i. row_of i (insertion_tableau (letters_up_to m s))) (range_with_len 1 n)) (omega (arith, length-enter_all (letters_up_to m s) [], size))
      ∙ map_range_alike (λ i. row_of i (insertion_tableau (letters_up_to m s))) (λ i. row_of i (insertion_tableau s)) 1 m (λ i from to. row_low i from (omega (arith, to)))
      ∙ sym (take-map-range_with_len (λ i. row_of i (insertion_tableau s)) 1 (length (concat (insertion_tableau s))) m (omega (arith, le, length-enter_all s [])))
