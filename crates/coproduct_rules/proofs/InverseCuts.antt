-- The cuts of the inverse of a permutation by values are the inverses of the standardised cuts of the permutation by places.
use Rattle.std.proofs.Common.{◌≡◌, ℕ, zero, suc, ◌+◌, ◌-◌, ◌<◌, ◌≤◌, Bool, true, false, List, [], ◌∷◌, map, length, take, drop, sym, ◌∙◌, ap, subst, arith, get_or}
use Rattle.std.specs.Prelude.{nat_lt, nat_le, not}
use Rattle.std.specs.List.{AllByRecursion, range_with_len}
use Rattle.std.proofs.lemmas.Bool.Decides.{nat_tests}
use Rattle.std.proofs.lemmas.List.{length-take-le, length-drop, get_or-take, get_or-drop}
use Rattle.realisations.specs.Lists.{one_if}
use Rattle.realisations.specs.Standardisation.{count_below, count_same, standardise_after, standardise, place_of, inverse}
use Rattle.realisations.proofs.Sums.{sums}
use Rattle.basis_representatives.proofs.Inverses.{StandsAt, stands_at, occurs-get_or, place_of-get_or, length-inverse, permutation-inverse}
use Rattle.basis_representatives.proofs.Permutations.{HasEachOnce, letters-permutation, letters_that_occur, count_same-permutation, count_below-permutation}
use Rattle.basis_representatives.proofs.Ranges.{map_range_is}
use Rattle.basis_representatives.proofs.SameOrder.{length-standardise}
use Rattle.coproduct_laws.specs.ValueCuts.{letters_up_to, letters_past, lower}
use Rattle.coproduct_laws.proofs.CutLetters.{count_up_to, count_past, length_up_to, length_cut}
use Rattle.coproduct_laws.proofs.LowAndHigh.{AreHigh}
use Rattle.coproduct_rules.proofs.InversePlaces.{place_up_to, place_past, front_or_back, count_front, count_below_range, none_below_one, high_part}

-- the value of a letter that stands once, after other letters
value_after : (q : ℕ) (before w : List ℕ) → q < length w → count_same (get_or w q 0) w ≡ 1
    → get_or (standardise_after before w) q 0 ≡ suc (count_below (get_or w q 0) before + count_same (get_or w q 0) before + count_below (get_or w q 0) w)
value_after q before [] h one = absurd (omega arith)
value_after zero before (x ∷ w) h one = let apart : nat_lt x x ≡ false = grind (arith, nat_tests) in rw apart (omega arith)
value_after (suc q) before (x ∷ w) h one =
    omega (arith, one, occurs-get_or w q (omega arith), value_after q (x ∷ before) w (omega arith) (omega (arith, one, occurs-get_or w q (omega arith))))

-- it is the number of smaller letters, and 1
standardise_at : (q : ℕ) (w : List ℕ) → q < length w → count_same (get_or w q 0) w ≡ 1 → get_or (standardise w) q 0 ≡ suc (count_below (get_or w q 0) w)
standardise_at q w h one = omega (arith, value_after q [] w h one)

module _ (s : List ℕ) (each : HasEachOnce s) where
  letters_positive : AllByRecursion (λ x. 0 < x) s
  letters_positive = letters_that_occur (λ x. 0 < x) s (λ x occurs. (letters-permutation s each x occurs).0)

  letter_positive : (q : ℕ) → q < length s → 0 < get_or s q 0
  letter_positive q lt = (letters-permutation s each (get_or s q 0) (occurs-get_or s q lt)).0

  letter_low : (q : ℕ) → q < length s → get_or s q 0 ≤ length s
  letter_low q lt = (letters-permutation s each (get_or s q 0) (occurs-get_or s q lt)).1

  letter_once : (q : ℕ) → q < length s → count_same (get_or s q 0) s ≡ 1
  letter_once q lt = each.once (get_or s q 0) (letter_positive q lt) (letter_low q lt)

  letter_place : (q : ℕ) → q < length s → place_of (get_or s q 0) s ≡ suc q
  letter_place q lt = place_of-get_or s (count_same-permutation s each) q lt

  -- no other number stands at its place
  other_place : (q i : ℕ) → q < length s → 0 < i → i ≤ length s → (i ≡ get_or s q 0 → ⊥) → place_of i s ≡ suc q → ⊥
  other_place q i lt low high apart e =
      let p : StandsAt i s = stands_at i s (omega (arith, each.once i low high)) in
      let same : p.at ≡ q = omega (arith, p.place, e) in
      apart (sym p.letter ∙ ap (λ n. get_or s n 0) same)

  -- of a permutation k values are up to k
  size-up_to : (k : ℕ) → k ≤ length s → length (letters_up_to k s) ≡ k
  size-up_to k le = length_up_to k s ∙ count_below-permutation s each k le

  -- they are a permutation
  pub permutation-up_to : (k : ℕ) → k ≤ length s → HasEachOnce (letters_up_to k s)
  permutation-up_to k le = record {
    once = λ i from to. count_up_to k i s (omega (arith, to, size-up_to k le)) ∙ each.once i from (omega (arith, to, size-up_to k le));
  }

  -- and so are those past k, lowered
  pub permutation-past : (k : ℕ) → k ≤ length s → HasEachOnce (lower k (letters_past k s))
  permutation-past k le = record {
    once = λ i from to. count_past k i s from ∙ each.once (k + i) (omega arith) (omega (arith, to, size-up_to k le, length_cut k s));
  }

module _ (s : List ℕ) (each : HasEachOnce s) (k : ℕ) (le : k ≤ length s) where
  -- how many smaller numbers stand in the front, and in the back
  smaller_in_front : (c : ℕ) → c < length s → sums (λ n. one_if (nat_le (place_of n s) k)) (range_with_len 1 c) ≡ count_below (1 + c) (take k s)
  smaller_in_front c h =
      let high : AreHigh 0 (take k s) = (high_part (λ x. 0 < x) k s (letters_positive s each)).0 in
      omega (arith, count_below_range (λ n. one_if (nat_le (place_of n s) k)) 1 c (take k s) (λ n p q. sym (count_front k n s (each.once n p (omega arith)))), none_below_one (take k s) high)

  -- how many smaller numbers stand in the back
  smaller_in_back : (c : ℕ) → c < length s → sums (λ n. one_if (not (nat_le (place_of n s) k))) (range_with_len 1 c) ≡ count_below (1 + c) (drop k s)
  smaller_in_back c h =
      let high : AreHigh 0 (drop k s) = (high_part (λ x. 0 < x) k s (letters_positive s each)).1 in
      omega (arith, count_below_range (λ n. one_if (not (nat_le (place_of n s) k))) 1 c (drop k s) (λ n p q. back n p (omega arith)), none_below_one (drop k s) high)
    where
      complement : (b : Bool) (m n : ℕ) → m + n ≡ 1 → m ≡ one_if b → one_if (not b) ≡ n
      complement true m n e f = omega (arith, e, f)
      complement false m n e f = omega (arith, e, f)

      back : (n : ℕ) → 0 < n → n ≤ length s → one_if (not (nat_le (place_of n s) k)) ≡ count_same n (drop k s)
      back n p q = complement (nat_le (place_of n s) k) (count_same n (take k s)) (count_same n (drop k s)) (front_or_back k n s ∙ each.once n p q) (count_front k n s (each.once n p q))

  -- k places are up to k
  front_length : length (letters_up_to k (inverse s)) ≡ k
  front_length = size-up_to (inverse s) (permutation-inverse s each) k (omega (arith, length-inverse s))

  -- the others are past k
  back_length : length (lower k (letters_past k (inverse s))) ≡ length s - k
  back_length = omega (arith, length_cut k (inverse s), front_length, length-inverse s)

  -- the places up to k, in the order of the values there, are the inverse of the standardised front
  pub inverse_of_front : inverse (letters_up_to k (inverse s)) ≡ standardise (take k s)
  inverse_of_front =
      ap (λ n. map (λ j. place_of j (letters_up_to k (inverse s))) (range_with_len 1 n)) (front_length ∙ sym size)
      ∙ map_range_is (λ j. place_of j (letters_up_to k (inverse s))) 1 (standardise (take k s)) (λ q h. at q (omega (arith, h, size)))
    where
      size : length (standardise (take k s)) ≡ k
      size = length-standardise (take k s) ∙ length-take-le k s le

      at : (q : ℕ) → q < k → place_of (1 + q) (letters_up_to k (inverse s)) ≡ get_or (standardise (take k s)) q 0
      at q h =
          let within : q < length s = omega (arith, le) in
          let letter : get_or (take k s) q 0 ≡ get_or s q 0 = get_or-take k s q 0 h in
          let inside : q < length (take k s) = omega (arith, length-take-le k s le) in
          let some : 0 < count_same (get_or s q 0) (take k s) = subst (λ x. 0 < count_same x (take k s)) letter (occurs-get_or (take k s) q inside) in
          let alone : count_same (get_or s q 0) (take k s) ≡ 1 = omega (arith, some, front_or_back k (get_or s q 0) s, letter_once s each q within) in
          let value : get_or (standardise (take k s)) q 0 ≡ suc (count_below (get_or s q 0) (take k s))
          = standardise_at q (take k s) inside (ap (λ x. count_same x (take k s)) letter ∙ alone) ∙ ap (λ x. suc (count_below x (take k s))) letter in
          place_up_to (λ i. place_of i s) (1 + q) (get_or s q 0) (letter_place s each q within ∙ omega arith) k (omega arith) 1 (length s) (letter_positive s each q within) (omega (arith, letter_low s each q within))
          (λ n low less e. other_place s each q n within low (omega (arith, letter_low s each q within)) (λ e'. omega arith) (e ∙ omega arith))
          ∙ ap suc (smaller_in_front (get_or s q 0 - 1) (omega (arith, letter_low s each q within, letter_positive s each q within)) ∙ ap (λ x. count_below x (take k s)) (omega (arith, letter_positive s each q within)))
          ∙ sym value

  -- and the places past k, lowered, are the inverse of the standardised back
  pub inverse_of_back : inverse (lower k (letters_past k (inverse s))) ≡ standardise (drop k s)
  inverse_of_back =
      ap (λ n. map (λ j. place_of j (lower k (letters_past k (inverse s)))) (range_with_len 1 n)) (back_length ∙ sym size)
      ∙ map_range_is (λ j. place_of j (lower k (letters_past k (inverse s)))) 1 (standardise (drop k s)) (λ q h. at q (omega (arith, h, size)))
    where
      size : length (standardise (drop k s)) ≡ length s - k
      size = length-standardise (drop k s) ∙ length-drop k s

      at : (q : ℕ) → q < length s - k → place_of (1 + q) (lower k (letters_past k (inverse s))) ≡ get_or (standardise (drop k s)) q 0
      at q h =
          let within : k + q < length s = omega arith in
          let letter : get_or (drop k s) q 0 ≡ get_or s (k + q) 0 = get_or-drop k s q 0 in
          let inside : q < length (drop k s) = omega (arith, length-drop k s) in
          let some : 0 < count_same (get_or s (k + q) 0) (drop k s) = subst (λ x. 0 < count_same x (drop k s)) letter (occurs-get_or (drop k s) q inside) in
          let alone : count_same (get_or s (k + q) 0) (drop k s) ≡ 1 = omega (arith, some, front_or_back k (get_or s (k + q) 0) s, letter_once s each (k + q) within) in
          let value : get_or (standardise (drop k s)) q 0 ≡ suc (count_below (get_or s (k + q) 0) (drop k s))
          = standardise_at q (drop k s) inside (ap (λ x. count_same x (drop k s)) letter ∙ alone) ∙ ap (λ x. suc (count_below x (drop k s))) letter in
          place_past (λ i. place_of i s) (suc (k + q)) (get_or s (k + q) 0) (letter_place s each (k + q) within) k (1 + q) (omega arith) (omega arith) 1 (length s)
          (letter_positive s each (k + q) within) (omega (arith, letter_low s each (k + q) within))
          (λ n low less e. other_place s each (k + q) n within low (omega (arith, letter_low s each (k + q) within)) (λ e'. omega arith) e)
          ∙ ap suc (smaller_in_back (get_or s (k + q) 0 - 1) (omega (arith, letter_low s each (k + q) within, letter_positive s each (k + q) within)) ∙ ap (λ x. count_below x (drop k s)) (omega (arith, letter_positive s each (k + q) within)))
          ∙ sym value
