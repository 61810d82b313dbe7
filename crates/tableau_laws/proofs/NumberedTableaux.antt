-- Tableaux by their letters in rising order and the numbers of their rows.
use Rattle.std.proofs.Common.{◌≡◌, ℕ, zero, suc, ◌+◌, ◌<◌, ◌≤◌, Bool, true, false, List, [], ◌∷◌, ◌++◌, length, take, drop, refl, sym, ◌∙◌, ap, subst, arith, inl, inr, append_assoc}
use Rattle.std.specs.Prelude.{IsTrue, min, nat_eq, nat_lt, if◌then◌else◌, Some}
use Rattle.std.specs.List.{concat, range_with_len}
use Rattle.std.proofs.lemmas.Bool.{and_from, and_parts, cases_lt}
use Rattle.std.proofs.lemmas.Bool.Decides.{nat_tests}
use Rattle.std.proofs.lemmas.List.{length-append, length-take, take-append-drop}
use Rattle.std.proofs.lemmas.List.FromFn.{length-range_with_len}
use Rattle.realisations.specs.IndexKinds.{is_permutation, is_standard_tableau}
use Rattle.realisations.specs.Lists.{one_if}
use Rattle.realisations.specs.Standardisation.{count_below, count_same}
use Rattle.realisations.specs.Tableaux.{enter, enter_all, insertion_tableau, is_increasing, reading_word, tableau_code}
use Rattle.realisations.specs.Words.{greatest}
use Rattle.realisations.proofs.RisingMaps.{Letters}
use Rattle.basis_representatives.proofs.Counts.{count_same-append, count_within, one_if-self}
use Rattle.basis_representatives.proofs.Entries.{above_later, count_same-enter_all, length-enter_all}
use Rattle.basis_representatives.proofs.Permutations.{HasEachOnce, count_same-permutation, each_once, letters-permutation, letters_that_occur, permutation_from}
use Rattle.basis_representatives.proofs.ReadingWords.{length-reading_word, permutation-reading_word}
use Rattle.basis_representatives.proofs.RowByRow.{Above, RisingRow}
use Rattle.tableau_laws.specs.LatticeWords.{IsLatticeWord}
use Rattle.tableau_laws.specs.NumberedRows.{IsNumbered, bumped, rows_by}
use Rattle.tableau_laws.proofs.LatticeSteps.{lattice-bumped, lattice-empty}
use Rattle.tableau_laws.proofs.LatticeColumns.{increasing-lattice}
use Rattle.tableau_laws.proofs.LatticeWords.{code-rows_of}
use Rattle.tableau_laws.proofs.NumberedInsertion.{Below, enter-rows_by}
use Rattle.tableau_laws.proofs.NumberedRows.{count-rows, length-rows, rising-range, rows_of-rows_by, within_greatest}

-- where a letter enters rising letters

-- none of greater letters is below x
none_below : (x : ℕ) (w : List ℕ) → Letters (λ b. x < b) w → count_below x w ≡ 0
none_below x [] h = refl
none_below x (y ∷ w) h = let none : one_if (nat_lt y x) ≡ 0 = (let less = h.0 in grind (arith, nat_tests, less)) in omega (arith, none, none_below x w h.1)

-- the letters smaller than x come first, and the others are greater
record Splits (x : ℕ) (letters : List ℕ) (at : ℕ) : Type 0 where
  below : Below x (take at letters)
  above : Above x (drop at letters)

-- a letter that is none of them has its place behind the smaller ones
splits : (x : ℕ) (letters : List ℕ) → RisingRow letters → count_same x letters ≡ 0 → Splits x letters (count_below x letters)
splits x [] up absent = record { below = tt; above = tt }
splits x (y ∷ letters) up absent = elim (cases_lt y x) [
  | inl less ↦
      (let one : suc (count_below x letters) ≡ count_below x (y ∷ letters) = (let e = below_is y x less in omega (arith, e)) in
      let ih = splits x letters up.1 (omega (arith, absent)) in
      subst (Splits x (y ∷ letters)) one (record { below = (less, ih.below); above = ih.above }))
  | inr le ↦
      (let greater : x < y = past x y le (omega (arith, absent)) in
      let all : Above x (y ∷ letters) = (greater, above_later x y letters greater up.0) in
      subst (Splits x (y ∷ letters)) (sym (none_below x (y ∷ letters) all)) (record { below = tt; above = all }))
]
  where
    below_is : (y x : ℕ) → y < x → one_if (nat_lt y x) ≡ 1
    below_is y x h = grind (arith, nat_tests, h)

    past : (x y : ℕ) → x ≤ y → one_if (nat_eq y x) ≡ 0 → x < y
    past x y h e = grind (arith, nat_tests, h, e)

-- the letters behind a front rise
rising-drop : (n : ℕ) (letters : List ℕ) → RisingRow letters → RisingRow (drop n letters)
rising-drop zero letters h = h
rising-drop (suc n) [] h = tt
rising-drop (suc n) (x ∷ letters) h = rising-drop n letters h.1

-- and stay greater than a
above-drop : (a n : ℕ) (letters : List ℕ) → Above a letters → Above a (drop n letters)
above-drop a zero letters h = h
above-drop a (suc n) [] h = tt
above-drop a (suc n) (x ∷ letters) h = above-drop a n letters h.1

-- each letter behind is greater than each in front
front_below : (n : ℕ) (letters : List ℕ) → RisingRow letters → Letters (λ y. Below y (take n letters)) (drop n letters)
front_below zero letters h = nothing letters
  where
    nothing : (letters : List ℕ) → Letters (λ y. Below y []) letters
    nothing [] = tt
    nothing (y ∷ letters) = (tt, nothing letters)
front_below (suc n) [] h = tt
front_below (suc n) (x ∷ letters) h = more (drop n letters) (above-drop x n letters h.0) (front_below n letters h.1)
  where
    more : (w : List ℕ) → Above x w → Letters (λ y. Below y (take n letters)) w → Letters (λ y. Below y (x ∷ take n letters)) w
    more [] up k = tt
    more (y ∷ w) up k = ((up.0, k.0), more w up.1 k.1)

-- with a letter in its place they still rise
rising-with : (x n : ℕ) (letters : List ℕ) → RisingRow letters → Below x (take n letters) → Above x (drop n letters) → RisingRow (take n letters ++ (x ∷ drop n letters))
rising-with x zero letters h below above = (above, h)
rising-with x (suc n) [] h below above = (tt, tt)
rising-with x (suc n) (y ∷ letters) h below above =
    (all n letters h.0 below.0, rising-with x n letters h.1 below.1 above)
  where
    all : (n : ℕ) (letters : List ℕ) → Above y letters → y < x → Above y (take n letters ++ (x ∷ drop n letters))
    all zero letters up less = (less, up)
    all (suc n) [] up less = (less, tt)
    all (suc n) (z ∷ letters) up less = (up.0, all n letters up.1 less)

-- the rows hold the letters

-- each as often as among the letters
pub count_same-rows_by : (k : ℕ) (letters code : List ℕ) → IsNumbered letters code → count_same k (concat (rows_by letters code)) ≡ count_same k letters
count_same-rows_by k letters code h = count-rows (λ y. nat_eq y k) 1 (greatest code) letters code h.same_size (within_greatest code h.lattice.positive)

-- as many as there are
pub length-rows_by : (letters code : List ℕ) → IsNumbered letters code → length (concat (rows_by letters code)) ≡ length letters
length-rows_by letters code h = length-rows 1 (greatest code) letters code h.same_size (within_greatest code h.lattice.positive)

-- a letter that enters
module _ (x : ℕ) (letters code : List ℕ) (h : IsNumbered letters code) (absent : count_same x (concat (rows_by letters code)) ≡ 0) where
  -- is between the smaller letters and the greater ones
  parts : Splits x letters (count_below x letters)
  parts = splits x letters h.rising (sym (count_same-rows_by x letters code h) ∙ absent)

  -- has its place among the letters
  pub place-letters : (at : ℕ) → at ≡ count_below x letters → at ≤ length letters
  place-letters at e = omega (arith, e, count_within (λ y. nat_lt y x) letters)

  -- and among the numbers of rows
  pub place-rows : (at : ℕ) → at ≡ count_below x letters → at ≤ length code
  place-rows at e = omega (arith, e, count_within (λ y. nat_lt y x) letters, h.same_size)

  -- the new numbers of rows are a lattice word
  lattice : IsLatticeWord (take (count_below x letters) code ++ (1 ∷ bumped 1 (drop (count_below x letters) code)))
  lattice =
      lattice-bumped (take (count_below x letters) code) (drop (count_below x letters) code)
      (subst IsLatticeWord (sym (take-append-drop (count_below x letters) code)) h.lattice)

  -- as many as before go on
  length-bumped : (s : ℕ) (code : List ℕ) → length (bumped s code) ≡ length code
  length-bumped s [] = refl
  length-bumped s (c ∷ code) = by_test (nat_eq c s) (length-bumped (suc s) code) (length-bumped s code)
    where
      by_test : (b : Bool) → length (bumped (suc s) code) ≡ length code → length (bumped s code) ≡ length code → length (if b then suc s ∷ bumped (suc s) code else c ∷ bumped s code) ≡ suc (length code)
      by_test true next ih = ap suc next
      by_test false next ih = ap suc ih

  -- so there is one more
  size : length (take (count_below x letters) code ++ (1 ∷ bumped 1 (drop (count_below x letters) code))) ≡ suc (length code)
  size =
      omega (
        arith,
        length-append (take (count_below x letters) code) (1 ∷ bumped 1 (drop (count_below x letters) code)),
        length-bumped 1 (drop (count_below x letters) code),
        length-append (take (count_below x letters) code) (drop (count_below x letters) code),
        ap length (take-append-drop (count_below x letters) code),
      )

  -- the new numbers, from their parts
  whole : (at : ℕ) (prefix front behind : List ℕ) → prefix ≡ take at code → front ≡ prefix ++ (1 ∷ []) → behind ≡ drop at code → front ++ bumped 1 behind ≡ take at code ++ (1 ∷ bumped 1 (drop at code))
  whole at prefix front behind p f b =
      (λ i. f i ++ bumped 1 (b i)) ∙ ap (λ w. (w ++ (1 ∷ [])) ++ bumped 1 (drop at code)) p ∙ append_assoc (take at code) (1 ∷ []) (bumped 1 (drop at code))

  -- are a lattice word
  pub lattice-entered : (at : ℕ) (prefix front behind : List ℕ) → at ≡ count_below x letters → prefix ≡ take at code → front ≡ prefix ++ (1 ∷ []) → behind ≡ drop at code
      → IsLatticeWord (front ++ bumped 1 behind)
  lattice-entered at prefix front behind e p f b =
      subst IsLatticeWord (sym (whole at prefix front behind p f b)) (subst (λ n. IsLatticeWord (take n code ++ (1 ∷ bumped 1 (drop n code)))) (sym e) lattice)

  -- one longer
  pub length-entered : (at : ℕ) (prefix front behind : List ℕ) → at ≡ count_below x letters → prefix ≡ take at code → front ≡ prefix ++ (1 ∷ []) → behind ≡ drop at code
      → length (front ++ bumped 1 behind) ≡ suc (length code)
  length-entered at prefix front behind e p f b =
      ap length (whole at prefix front behind p f b) ∙ ap (λ n. length (take n code ++ (1 ∷ bumped 1 (drop n code)))) e ∙ size

  -- the new letters rise, and have these numbers
  numbered : IsNumbered (take (count_below x letters) letters ++ (x ∷ drop (count_below x letters) letters)) (take (count_below x letters) code ++ (1 ∷ bumped 1 (drop (count_below x letters) code)))
  numbered = record {
    rising = rising-with x (count_below x letters) letters h.rising parts.below parts.above;
    lattice = lattice;
    same_size = omega (
      arith,
      length-append (take (count_below x letters) letters) (x ∷ drop (count_below x letters) letters),
      length-append (take (count_below x letters) letters) (drop (count_below x letters) letters),
      ap length (take-append-drop (count_below x letters) letters),
      size,
      h.same_size,
    );
  }

  -- and their rows are those that the letter has entered
  rows : rows_by (take (count_below x letters) letters ++ (x ∷ drop (count_below x letters) letters)) (take (count_below x letters) code ++ (1 ∷ bumped 1 (drop (count_below x letters) code))) ≡ enter (Some x) (rows_by letters code)
  rows =
      sym
      (ap (λ w. enter (Some x) (rows_by w code)) (sym (take-append-drop (count_below x letters) letters))
      ∙ ap (λ w. enter (Some x) (rows_by (take (count_below x letters) letters ++ drop (count_below x letters) letters) w)) (sym (take-append-drop (count_below x letters) code))
      ∙ enter-rows_by x (take (count_below x letters) letters) (drop (count_below x letters) letters) (take (count_below x letters) code) (drop (count_below x letters) code)
      (omega (arith, same_front)) (omega (
        arith,
        same_front,
        length-append (take (count_below x letters) letters) (drop (count_below x letters) letters),
        ap length (take-append-drop (count_below x letters) letters),
        length-append (take (count_below x letters) code) (drop (count_below x letters) code),
        ap length (take-append-drop (count_below x letters) code),
        h.same_size,
      ))
      parts.below parts.above (rising-drop (count_below x letters) letters h.rising) (front_below (count_below x letters) letters h.rising))
    where
      same_front : length (take (count_below x letters) letters) ≡ length (take (count_below x letters) code)
      same_front = length-take (count_below x letters) letters ∙ ap (min (count_below x letters)) h.same_size ∙ sym (length-take (count_below x letters) code)

  -- the new letters and numbers are kept as a tableau
  pub numbered-entered : (at : ℕ) (prefix front behind now new : List ℕ) → at ≡ count_below x letters → prefix ≡ take at code → front ≡ prefix ++ (1 ∷ []) → behind ≡ drop at code
      → now ≡ take at letters ++ (x ∷ drop at letters) → new ≡ front ++ bumped 1 behind → IsNumbered now new
  numbered-entered at prefix front behind now new e p f b n w =
      subst (λ v. IsNumbered v new) (sym n)
      (subst (λ v. IsNumbered (take at letters ++ (x ∷ drop at letters)) v) (sym (w ∙ whole at prefix front behind p f b))
      (subst (λ m. IsNumbered (take m letters ++ (x ∷ drop m letters)) (take m code ++ (1 ∷ bumped 1 (drop m code)))) (sym e) numbered))

  -- which the letter has entered
  pub rows-entered : (at : ℕ) (prefix front behind now new : List ℕ) → at ≡ count_below x letters → prefix ≡ take at code → front ≡ prefix ++ (1 ∷ []) → behind ≡ drop at code
      → now ≡ take at letters ++ (x ∷ drop at letters) → new ≡ front ++ bumped 1 behind → rows_by now new ≡ enter (Some x) (rows_by letters code)
  rows-entered at prefix front behind now new e p f b n w =
      (λ i. rows_by (n i) ((w ∙ whole at prefix front behind p f b) i))
      ∙ ap (λ m. rows_by (take m letters ++ (x ∷ drop m letters)) (take m code ++ (1 ∷ bumped 1 (drop m code)))) e
      ∙ rows

-- a standard tableau has the letters 1, 2, ..

-- rising letters below b
rising_bound : (x b : ℕ) (w : List ℕ) → RisingRow (x ∷ w) → Letters (λ y. y < b) (x ∷ w) → x + length w < b
rising_bound x b [] up h = omega (arith, h.0)
rising_bound x b (y ∷ w) up h = omega (arith, rising_bound y b w up.1 h.1, up.0.0)

-- as many rising letters as there are numbers are these numbers
rising_range : (k : ℕ) (w : List ℕ) → RisingRow w → Letters (λ y. k ≤ y) w → Letters (λ y. y < k + length w) w → w ≡ range_with_len k (length w)
rising_range k [] up low high = refl
rising_range k (x ∷ w) up low high =
    let first : x ≡ k = omega (arith, low.0, rising_bound x (k + suc (length w)) w up high) in
    let rest : w ≡ range_with_len (k + 1) (length w) = rising_range (k + 1) w up.1 (later w up.0) (bounded w high.1) in
    λ i. first i ∷ rest i
  where
    later : (w : List ℕ) → Above x w → Letters (λ y. k + 1 ≤ y) w
    later [] h = tt
    later (y ∷ w) h = (omega (arith, h.0, low.0), later w h.1)

    bounded : (v : List ℕ) → Letters (λ y. y < k + suc (length w)) v → Letters (λ y. y < (k + 1) + length w) v
    bounded [] h = tt
    bounded (y ∷ v) h = (omega (arith, h.0), bounded v h.1)

module _ (letters code : List ℕ) (h : IsNumbered letters code) (standard : IsTrue (is_standard_tableau (rows_by letters code))) where
  -- its letters are those of a permutation
  perm : HasEachOnce (concat (rows_by letters code))
  perm = each_once (concat (rows_by letters code)) (and_parts (is_permutation (concat (rows_by letters code))) (is_increasing (rows_by letters code)) standard).0

  -- as letters by themselves
  own : HasEachOnce letters
  own = record { once = λ i from to. sym (count_same-rows_by i letters code h) ∙ perm.once i from (omega (arith, to, length-rows_by letters code h)) }

  -- so they are 1, 2, ..
  letters-standard : letters ≡ range_with_len 1 (length letters)
  letters-standard =
      rising_range 1 letters h.rising (letters_that_occur (λ y. 1 ≤ y) letters (λ x occurs. (letters-permutation letters own x occurs).0))
      (letters_that_occur (λ y. y < 1 + length letters) letters (λ x occurs. let k = letters-permutation letters own x occurs in omega (arith, k.1)))

  -- its numbers of rows are its code
  pub code-standard : code ≡ tableau_code (rows_by letters code)
  code-standard =
      sym
      (ap (λ w. tableau_code (rows_by w code)) (letters-standard ∙ ap (range_with_len 1) h.same_size)
      ∙ ap tableau_code (sym (rows_of-rows_by code))
      ∙ code-rows_of code h.lattice.positive)

  -- its reading word is a permutation
  pub reading_word-standard : IsTrue (is_permutation (reading_word (rows_by letters code)))
  reading_word-standard = permutation_from (reading_word (rows_by letters code)) (permutation-reading_word (rows_by letters code) perm)

  -- of its size
  pub length-standard : length (reading_word (rows_by letters code)) ≡ length code
  length-standard = omega (arith, length-reading_word (rows_by letters code), length-rows_by letters code h, h.same_size)

-- the rows of a lattice word are numbered by the letters 1, 2, ..
pub numbered-range : (code : List ℕ) → IsLatticeWord code → IsNumbered (range_with_len 1 (length code)) code
numbered-range code h = record {
  rising = rising-range 1 (length code);
  lattice = h;
  same_size = length-range_with_len 1 (length code);
}

-- rows that are numbered
record HasNumbers (rows : List (List ℕ)) : Type 0 where
  letters : List ℕ
  code : List ℕ
  numbered : IsNumbered letters code
  is : rows_by letters code ≡ rows

-- rows that a letter has entered, numbered
record HasEntered (x : ℕ) (letters : List ℕ) (rows : List (List ℕ)) : Type 0 where
  now : List ℕ
  code : List ℕ
  numbered : IsNumbered now code
  is : rows_by now code ≡ enter (Some x) rows
  counts : (k : ℕ) → count_same k now ≡ one_if (nat_eq x k) + count_same k letters

-- a letter enters numbered rows
entered : (x : ℕ) (letters code : List ℕ) → IsNumbered letters code → count_same x (concat (rows_by letters code)) ≡ 0 → HasEntered x letters (rows_by letters code)
entered x letters code h absent = at_place (count_below x letters) refl
  where
    at_place : (at : ℕ) → at ≡ count_below x letters → HasEntered x letters (rows_by letters code)
    at_place at e = record {
      now = take at letters ++ (x ∷ drop at letters);
      code = (take at code ++ (1 ∷ [])) ++ bumped 1 (drop at code);
      numbered = numbered-entered x letters code h absent at (take at code) (take at code ++ (1 ∷ [])) (drop at code) (take at letters ++ (x ∷ drop at letters)) ((take at code ++ (1 ∷ [])) ++ bumped 1 (drop at code))
          e refl refl refl refl refl;
      is = rows-entered x letters code h absent at (take at code) (take at code ++ (1 ∷ [])) (drop at code) (take at letters ++ (x ∷ drop at letters)) ((take at code ++ (1 ∷ [])) ++ bumped 1 (drop at code))
          e refl refl refl refl refl;
      counts = λ k. omega (
        arith,
        count_same-append k (take at letters) (x ∷ drop at letters),
        count_same-append k (take at letters) (drop at letters),
        ap (count_same k) (take-append-drop at letters),
      );
    }

-- so does a word
enter_all-numbered : (w letters code : List ℕ) → IsNumbered letters code → ((k : ℕ) → count_same k w + count_same k letters ≤ 1) → HasNumbers (enter_all w (rows_by letters code))
enter_all-numbered [] letters code h few = record { letters = letters; code = code; numbered = h; is = refl }
enter_all-numbered (x ∷ w) letters code h few =
    let first = entered x letters code h (omega (arith, count_same-rows_by x letters code h, few x, one_if-self x)) in
    subst HasNumbers (ap (enter_all w) first.is) (enter_all-numbered w first.now first.code first.numbered (λ k. omega (arith, few k, first.counts k)))

-- P of distinct letters has rows and columns that rise (Schensted 1961)
increasing-insertion : (w : List ℕ) → ((k : ℕ) → count_same k w ≤ 1) → IsTrue (is_increasing (insertion_tableau w))
increasing-insertion w d =
    let n = enter_all-numbered w [] [] (record { rising = tt; lattice = lattice-empty; same_size = refl }) (λ k. omega (arith, d k)) in
    subst (λ rows. IsTrue (is_increasing rows)) n.is (increasing-lattice n.letters n.code n.numbered.same_size n.numbered.rising n.numbered.lattice)

-- P of a permutation is a standard tableau
pub standard-insertion : (s : List ℕ) → IsTrue (is_permutation s) → IsTrue (is_standard_tableau (insertion_tableau s))
standard-insertion s h =
    let once = each_once s h in
    and_from (is_permutation (concat (insertion_tableau s))) (is_increasing (insertion_tableau s))
    (permutation_from (concat (insertion_tableau s)) (record {
      once = λ i from to. omega (arith, count_same-enter_all i s [], once.once i from (omega (arith, to, length-enter_all s [])));
    }))
    (increasing-insertion s (count_same-permutation s once))
