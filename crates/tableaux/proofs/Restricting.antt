-- The letters of a permutation in an interval of values, lowered one by one.
use Rattle.std.proofs.Common.{◌≡◌, ℕ, suc, ◌+◌, ◌-◌, ◌<◌, ◌≤◌, Bool, true, false, List, [], ◌∷◌, ◌++◌, length, drop, get_or, refl, sym, ◌∙◌, ap, subst, arith, add-one, drop-cons}
use Rattle.std.specs.Prelude.{IsTrue, nat_le, ◌&&◌, if◌then◌else◌}
use Rattle.std.proofs.lemmas.Bool.Decides.{nat_tests}
use Rattle.std.proofs.lemmas.List.{append-nil, drop_all}
use Rattle.realisations.specs.IndexKinds.{is_permutation}
use Rattle.realisations.specs.Standardisation.{standardise}
use Rattle.basis_representatives.proofs.Permutations.{each_once, permutation_from, permutation-standardise}
use Rattle.basis_representatives.proofs.SameOrder.{length-standardise}
use Rattle.linear_combos.specs.Codes.{IsCode}
use Rattle.permutation_words.proofs.Codes.{IsCode-standardise}
use Rattle.tableau_laws.specs.Intervals.{letters_between}
use Rattle.tableau_laws.proofs.StandardIntervals.{standardise-between}
use Rattle.tableaux.specs.NumberedTableaux.{lowered_between}

-- a letter of the interval
pub letter_taken : (from to : ℕ) (w : List ℕ) (i : ℕ) → i < length w → from ≤ get_or w i 0 → get_or w i 0 ≤ to
    → lowered_between from to (drop i w) ≡ (get_or w i 0 - (from - 1)) ∷ lowered_between from to (drop (i + 1) w)
letter_taken from to w i lt low high =
    let test : nat_le from (get_or w i 0) && nat_le (get_or w i 0) to ≡ true = within from (get_or w i 0) to low high in
    rw (add-one, drop-cons w i 0 lt, test) refl
  where
    within : (from x to : ℕ) → from ≤ x → x ≤ to → nat_le from x && nat_le x to ≡ true
    within from x to low high = grind (arith, nat_tests, low, high)

-- one below it
pub letter_below : (from to : ℕ) (w : List ℕ) (i : ℕ) → i < length w → get_or w i 0 < from → lowered_between from to (drop i w) ≡ lowered_between from to (drop (i + 1) w)
letter_below from to w i lt out =
    let test : nat_le from (get_or w i 0) && nat_le (get_or w i 0) to ≡ false = below from (get_or w i 0) to out in
    rw (add-one, drop-cons w i 0 lt, test) refl
  where
    below : (from x to : ℕ) → x < from → nat_le from x && nat_le x to ≡ false
    below from x to out = grind (arith, nat_tests, out)

-- one above it
pub letter_above : (from to : ℕ) (w : List ℕ) (i : ℕ) → i < length w → to < get_or w i 0 → lowered_between from to (drop i w) ≡ lowered_between from to (drop (i + 1) w)
letter_above from to w i lt out =
    let test : nat_le from (get_or w i 0) && nat_le (get_or w i 0) to ≡ false = above from (get_or w i 0) to out in
    rw (add-one, drop-cons w i 0 lt, test) refl
  where
    above : (from x to : ℕ) → to < x → nat_le from x && nat_le x to ≡ false
    above from x to out = grind (arith, nat_tests, out)

-- at the end
pub nothing_left : (from to : ℕ) (out w : List ℕ) (i : ℕ) → length w ≤ i → out ++ lowered_between from to (drop i w) ≡ lowered_between from to w → out ≡ lowered_between from to w
nothing_left from to out w i le e = sym (append-nil out) ∙ ap (λ v. out ++ lowered_between from to v) (sym (drop_all i w le)) ∙ e

-- all of them are the standardised letters of the interval
pub lowered-standard : (from to : ℕ) (w : List ℕ) → IsTrue (is_permutation w) → lowered_between from to w ≡ standardise (letters_between from to w)
lowered-standard from to w h = sym (standardise-between from to w (each_once w h))

-- there are no more letters in an interval than in the word
length-between : (from to : ℕ) (w : List ℕ) → length (letters_between from to w) ≤ length w
length-between from to [] = omega arith
length-between from to (x ∷ w) = by_test (nat_le from x && nat_le x to) (length-between from to w)
  where
    by_test : (b : Bool) → length (letters_between from to w) ≤ length w → length (if b then x ∷ letters_between from to w else letters_between from to w) ≤ suc (length w)
    by_test true ih = omega (arith, ih)
    by_test false ih = omega (arith, ih)

-- no more than there are letters
pub length-standardised : (from to : ℕ) (w : List ℕ) → length (standardise (letters_between from to w)) ≤ length w
length-standardised from to w = omega (arith, length-standardise (letters_between from to w), length-between from to w)

-- a permutation
pub permutation-standardised : (from to : ℕ) (w : List ℕ) → IsTrue (is_permutation (standardise (letters_between from to w)))
permutation-standardised from to w = permutation_from (standardise (letters_between from to w)) (permutation-standardise (letters_between from to w))

-- and a code
pub code-standardised : (from to : ℕ) (w : List ℕ) → IsTrue (is_permutation w) → length w ≤ 15 → IsCode (lowered_between from to w)
code-standardised from to w h le =
    subst IsCode (sym (lowered-standard from to w h)) (IsCode-standardise (letters_between from to w) (omega (arith, length-between from to w, le)))
