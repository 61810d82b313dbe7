-- A letter that enters a row: what leaves, what the row holds then, and that it still rises.
use Rattle.std.proofs.Common.{◌≡◌, ℕ, suc, ◌+◌, ◌<◌, ◌≤◌, true, false, List, [], ◌∷◌, length, refl, sym, ◌∙◌, ap, arith, inl, inr}
use Rattle.std.specs.Prelude.{nat_eq, nat_lt, Option, Some, None}
use Rattle.std.specs.List.{concat}
use Rattle.std.proofs.lemmas.Bool.{cases_lt}
use Rattle.std.proofs.lemmas.List.{length-append}
use Rattle.realisations.specs.Lists.{one_if}
use Rattle.realisations.specs.Standardisation.{count_same}
use Rattle.realisations.specs.Tableaux.{enter_row, enter, enter_all}
use Rattle.basis_representatives.proofs.Counts.{count_same-append, one_if-self}
use Rattle.basis_representatives.proofs.RowByRow.{Above, RisingRow, ge_is, lt_is}

-- the entry at the first letter
pub enter-below : (x a : ℕ) (row : List ℕ) → x < a → enter_row x (a ∷ row) ≡ record { leaves = Some a; row = x ∷ row }
enter-below x a row h = let e : nat_lt x a ≡ true = lt_is x a h in rw e refl

-- and behind a first letter that is not greater
pub enter-above : (x a : ℕ) (row : List ℕ) → a ≤ x → enter_row x (a ∷ row) ≡ record { leaves = (enter_row x row).leaves; row = a ∷ (enter_row x row).row }
enter-above x a row h = let e : nat_lt x a ≡ false = ge_is x a h in rw e refl

-- how often a letter that left, if one did, is k
abbrev pub count_option : ℕ → Option ℕ → ℕ
count_option k None = 0
count_option k (Some x) = one_if (nat_eq x k)

-- how many letters left
abbrev pub size_option : Option ℕ → ℕ
size_option None = 0
size_option (Some x) = 1

-- no letter is lost
pub count_same-enter_row : (k x : ℕ) (row : List ℕ) → count_same k (enter_row x row).row + count_option k (enter_row x row).leaves ≡ one_if (nat_eq x k) + count_same k row
count_same-enter_row k x [] = omega arith
count_same-enter_row k x (a ∷ row) = elim (cases_lt x a) [
  | inl h ↦ rw (lt_is x a h) (omega arith)
  | inr h ↦ rw (ge_is x a h) (omega (arith, count_same-enter_row k x row))
]

length-enter_row : (x : ℕ) (row : List ℕ) → length (enter_row x row).row + size_option (enter_row x row).leaves ≡ suc (length row)
length-enter_row x [] = omega arith
length-enter_row x (a ∷ row) = elim (cases_lt x a) [
  | inl h ↦ rw (lt_is x a h) (omega arith)
  | inr h ↦ rw (ge_is x a h) (omega (arith, length-enter_row x row))
]

-- no letter of a tableau is lost
pub count_same-enter : (k : ℕ) (o : Option ℕ) (rows : List (List ℕ)) → count_same k (concat (enter o rows)) ≡ count_option k o + count_same k (concat rows)
count_same-enter k None rows = omega arith
count_same-enter k (Some x) [] = omega arith
count_same-enter k (Some x) (row ∷ rows) =
    omega (arith, count_same-append k (enter_row x row).row (concat (enter (enter_row x row).leaves rows)), count_same-append k row (concat rows), count_same-enter k (enter_row x row).leaves rows, count_same-enter_row k x row)

length-enter : (o : Option ℕ) (rows : List (List ℕ)) → length (concat (enter o rows)) ≡ size_option o + length (concat rows)
length-enter None rows = omega arith
length-enter (Some x) [] = omega arith
length-enter (Some x) (row ∷ rows) =
    omega (arith, length-append (enter_row x row).row (concat (enter (enter_row x row).leaves rows)), length-append row (concat rows), length-enter (enter_row x row).leaves rows, length-enter_row x row)

-- a tableau that a word has entered has the letters of both
pub count_same-enter_all : (k : ℕ) (w : List ℕ) (rows : List (List ℕ)) → count_same k (concat (enter_all w rows)) ≡ count_same k w + count_same k (concat rows)
count_same-enter_all k [] rows = omega arith
count_same-enter_all k (x ∷ w) rows = omega (arith, count_same-enter_all k w (enter (Some x) rows), count_same-enter k (Some x) rows)

-- so it is as large as both
pub length-enter_all : (w : List ℕ) (rows : List (List ℕ)) → length (concat (enter_all w rows)) ≡ length w + length (concat rows)
length-enter_all [] rows = omega arith
length-enter_all (x ∷ w) rows = omega (arith, length-enter_all w (enter (Some x) rows), length-enter (Some x) rows)

-- x is none of the letters
abbrev pub Apart : ℕ → List ℕ → Type 0
Apart x [] = Unit {0}
Apart x (a ∷ row) = ((x ≡ a) → ⊥) × Apart x row

-- a letter that is not counted is none of the letters
pub apart-count : (x : ℕ) (row : List ℕ) → count_same x row ≡ 0 → Apart x row
apart-count x [] h = tt
apart-count x (a ∷ row) h = (other x a (omega (arith, h)), apart-count x row (omega (arith, h)))
  where
    other : (x a : ℕ) → one_if (nat_eq a x) ≡ 0 → x ≡ a → ⊥
    other x a h e = let g : one_if (nat_eq a a) ≡ 0 = ap (λ n. one_if (nat_eq a n)) (sym e) ∙ h in omega (arith, one_if-self a)

-- at most, and not equal, is below
pub apart_lt : (a x : ℕ) → a ≤ x → (x ≡ a → ⊥) → a < x
apart_lt a x l n = grind (arith, n)

-- what is past b is past each smaller a
pub above_later : (a b : ℕ) (row : List ℕ) → a < b → Above b row → Above a row
above_later a b [] h k = tt
above_later a b (c ∷ row) h k = (omega (arith, h, k.0), above_later a b row h k.1)

-- what leaves, if something does, is greater than a
abbrev pub LeavesAbove : ℕ → Option ℕ → Type 0
LeavesAbove a None = Unit {0}
LeavesAbove a (Some b) = a < b

-- what leaves is greater than what enters
pub leaves-past : (x : ℕ) (row : List ℕ) → LeavesAbove x (enter_row x row).leaves
leaves-past x [] = tt
leaves-past x (b ∷ row) = elim (cases_lt x b) [ inl h ↦ rw (lt_is x b h) h | inr h ↦ rw (ge_is x b h) (leaves-past x row) ]

-- past a, a row stays past a
above-enter_row : (a x : ℕ) (row : List ℕ) → a < x → Above a row → Above a (enter_row x row).row
above-enter_row a x [] h k = (h, tt)
above-enter_row a x (b ∷ row) h k = elim (cases_lt x b) [ inl l ↦ rw (lt_is x b l) (h, k.1) | inr l ↦ rw (ge_is x b l) (k.0, above-enter_row a x row h k.1) ]

-- a row that a new letter enters still rises
pub rising-enter_row : (x : ℕ) (row : List ℕ) → RisingRow row → Apart x row → RisingRow (enter_row x row).row
rising-enter_row x [] up ax = (tt, tt)
rising-enter_row x (a ∷ row) up ax = elim (cases_lt x a) [
  | inl h ↦ rw (lt_is x a h) (above_later x a row h up.0, up.1)
  | inr h ↦ rw (ge_is x a h) (above-enter_row a x row (apart_lt a x h ax.0) up.0, rising-enter_row x row up.1 ax.1)
]
