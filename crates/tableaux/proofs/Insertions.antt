-- Words that enter the empty tableau, letter by letter.
use Rattle.std.proofs.Common.{◌≡◌, ℕ, ◌+◌, ◌<◌, ◌≤◌, List, [], ◌∷◌, length, take, drop, get_or, sym, ◌∙◌, ap, arith}
use Rattle.std.specs.List.{concat}
use Rattle.std.specs.Prelude.{Some}
use Rattle.std.proofs.lemmas.List.{length-take, take-append-drop, take_more}
use Rattle.realisations.specs.Standardisation.{count_same}
use Rattle.realisations.specs.Tableaux.{enter, insertion_tableau}
use Rattle.basis_representatives.proofs.Counts.{count_same-append, one_if-self}
use Rattle.basis_representatives.proofs.Entries.{count_same-enter_all, length-enter_all}
use Rattle.basis_representatives.proofs.RowByRow.{enter_all-append}

-- as large as the front that has entered
pub length-front : (w : List ℕ) (i : ℕ) → i ≤ length w → length (concat (insertion_tableau (take i w))) ≡ i
length-front w i le = omega (arith, length-enter_all (take i w) [], length-take i w)

-- the next letter is new
pub next_is_new : (w : List ℕ) (i : ℕ) → i < length w → ((k : ℕ) → count_same k w ≤ 1) → count_same (get_or w i 0) (concat (insertion_tableau (take i w))) ≡ 0
next_is_new w i lt d =
    let x = get_or w i 0 in
    omega (
      arith,
      d x,
      ap (count_same x) (take-append-drop (i + 1) w),
      count_same-append x (take (i + 1) w) (drop (i + 1) w),
      ap (count_same x) (take_more w i 0 lt),
      count_same-append x (take i w) (x ∷ []),
      one_if-self x,
      count_same-enter_all x (take i w) [],
    )

-- and enters
pub next_enters : (w : List ℕ) (i : ℕ) → i < length w → enter (Some (get_or w i 0)) (insertion_tableau (take i w)) ≡ insertion_tableau (take (i + 1) w)
next_enters w i lt = sym (ap insertion_tableau (take_more w i 0 lt) ∙ enter_all-append (take i w) (get_or w i 0 ∷ []) [])
