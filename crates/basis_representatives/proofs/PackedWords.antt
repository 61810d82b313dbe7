-- A packed word is its own packing, and the packing of a word is a packed word.
use Rattle.std.proofs.Common.{◌≡◌, ◌⊎◌, ℕ, zero, suc, ◌+◌, ◌<◌, ◌≤◌, Bool, true, false, List, [], ◌∷◌, map, refl, sym, ◌∙◌, ap, arith, inl, inr}
use Rattle.std.specs.Prelude.{IsTrue, nat_eq, nat_le, not, ◌||◌}
use Rattle.std.specs.List.{list_all, range_with_len}
use Rattle.std.proofs.lemmas.List.{map-id}
use Rattle.std.proofs.lemmas.Bool.{cases_lt, cases_eq, and_parts, and_from, eq-eqb, ne_eqb, leb-true, le-leb, or_left, or_right}
use Rattle.std.proofs.lemmas.Bool.Decides.{nat_tests}
use Rattle.realisations.specs.Lists.{one_if, is_among}
use Rattle.realisations.specs.Words.{greatest}
use Rattle.realisations.specs.Standardisation.{rank_in, pack}
use Rattle.realisations.specs.IndexKinds.{is_packed}
use Rattle.realisations.proofs.RisingMaps.{Letters}
use Rattle.basis_representatives.proofs.Letters.{map_same}
use Rattle.basis_representatives.proofs.Ranges.{list_all_range, list_all_range-from}

-- each letter is positive, and each number from 1 to the greatest letter is a letter
pub record HasAllLetters (u : List ℕ) : Type 0 where
  pub positive : Letters (λ x. 1 ≤ x) u
  pub each : (x : ℕ) → 1 ≤ x → x ≤ greatest u → is_among x u ≡ true

list_all-letters : (test : ℕ → Bool) (P : ℕ → Type 0) → ((x : ℕ) → test x ≡ true → P x) → (w : List ℕ) → IsTrue (list_all test w) → Letters P w
list_all-letters test P means [] h = tt
list_all-letters test P means (x ∷ w) h = let parts = and_parts (test x) (list_all test w) h in (means x parts.0, list_all-letters test P means w parts.1)

list_all-from_letters : (test : ℕ → Bool) (P : ℕ → Type 0) → ((x : ℕ) → P x → test x ≡ true) → (w : List ℕ) → Letters P w → IsTrue (list_all test w)
list_all-from_letters test P shows [] h = refl
list_all-from_letters test P shows (x ∷ w) h = and_from (test x) (list_all test w) (shows x h.0) (list_all-from_letters test P shows w h.1)

-- the test says so
pub all_letters : (u : List ℕ) → IsTrue (is_packed u) → HasAllLetters u
all_letters u h =
    let parts = and_parts (list_all (λ x. nat_le 1 x) u) (list_all (λ x. is_among x u) (range_with_len 1 (greatest u))) h in
    record {
      positive = list_all-letters (λ x. nat_le 1 x) (λ x. 1 ≤ x) (λ x e. leb-true 1 x e) u parts.0;
      each = λ x from to. list_all_range (λ y. is_among y u) 1 (greatest u) parts.1 x from (omega arith);
    }

-- and holds where it is so
pub packed_from : (u : List ℕ) → HasAllLetters u → IsTrue (is_packed u)
packed_from u h =
    and_from (list_all (λ x. nat_le 1 x) u) (list_all (λ x. is_among x u) (range_with_len 1 (greatest u)))
    (list_all-from_letters (λ x. nat_le 1 x) (λ x. 1 ≤ x) (λ x k. le-leb 1 x k) u h.positive)
    (list_all_range-from (λ y. is_among y u) 1 (greatest u) (λ x from to. h.each x from (omega arith)))

-- the rank of x + 1 is that of x, and 1 more where x + 1 is a letter
pub rank_in-suc : (w : List ℕ) (x : ℕ) → rank_in w (suc x) ≡ rank_in w x + one_if (is_among (suc x) w)
rank_in-suc [] x = omega arith
rank_in-suc (y ∷ w) x = elim (cases_eq y (suc x)) [
  | inl same ↦
      (let e : nat_eq y (suc x) ≡ true = eq-eqb y (suc x) same in
      let le : nat_le y (suc x) ≡ true = grind (arith, nat_tests) in
      let gt : nat_le y x ≡ false = grind (arith, nat_tests) in
      rw (e, le, gt) (at_letter _ _ (is_among y w) (is_among (suc x) w) (ap (λ n. is_among n w) same) (rank_in-suc w x)))
  | inr other ↦
      (let e : nat_eq y (suc x) ≡ false = ne_eqb y (suc x) other in
      let both : nat_le y (suc x) ≡ nat_le y x = grind (arith, nat_tests, other) in
      rw (e, both) (omega (arith, rank_in-suc w x)))
]
  where
    at_letter : (m n : ℕ) (a b : Bool) → a ≡ b → m ≡ n + one_if b → one_if (not a) + m ≡ 0 + n + 1
    at_letter m n true true e h = omega (arith, h)
    at_letter m n false false e h = omega (arith, h)
    at_letter m n true false e h = absurd (cc)
    at_letter m n false true e h = absurd (cc)

-- below positive letters the rank is 0
rank_in-zero : (w : List ℕ) → Letters (λ x. 1 ≤ x) w → rank_in w 0 ≡ 0
rank_in-zero [] h = refl
rank_in-zero (y ∷ w) h = let e : nat_le y 0 ≡ false = grind (arith, nat_tests, h.0) in rw e (omega (arith, rank_in-zero w h.1))

-- the rank of a letter of a packed word is the letter
rank_in-packed : (u : List ℕ) → HasAllLetters u → (x : ℕ) → x ≤ greatest u → rank_in u x ≡ x
rank_in-packed u h zero le = rank_in-zero u h.positive
rank_in-packed u h (suc x) le =
    let one : one_if (is_among (suc x) u) ≡ 1 = ap one_if (h.each (suc x) (omega arith) le) in
    omega (arith, rank_in-suc u x, one, rank_in-packed u h x (omega arith))

-- each letter is at most the greatest
pub letters_to_greatest : (w : List ℕ) (n : ℕ) → greatest w ≤ n → Letters (λ x. x ≤ n) w
letters_to_greatest [] n h = tt
letters_to_greatest (x ∷ w) n h = (omega arith, letters_to_greatest w n (omega arith))

-- a packed word is its own packing
pub pack-packed : (u : List ℕ) → HasAllLetters u → pack u ≡ u
pack-packed u h = map_same (λ x. rank_in u x) (λ x. x) (λ x. x ≤ greatest u) (rank_in-packed u h) u (letters_to_greatest u (greatest u) (omega arith)) ∙ map-id u

-- the rank of 0 is 1 where 0 is a letter, else 0
rank_in-first : (w : List ℕ) → rank_in w 0 ≡ one_if (is_among 0 w)
rank_in-first [] = refl
rank_in-first (y ∷ w) = elim (cases_eq y 0) [
  | inl same ↦
      (let e : nat_eq y 0 ≡ true = eq-eqb y 0 same in
      let le : nat_le y 0 ≡ true = grind (arith, nat_tests) in
      rw (e, le) (at_letter _ (is_among y w) (is_among 0 w) (ap (λ n. is_among n w) same) (rank_in-first w)))
  | inr other ↦
      (let e : nat_eq y 0 ≡ false = ne_eqb y 0 other in
      let gt : nat_le y 0 ≡ false = grind (arith, nat_tests, other) in
      rw (e, gt) (omega (arith, rank_in-first w)))
]
  where
    at_letter : (m : ℕ) (a b : Bool) → a ≡ b → m ≡ one_if b → one_if (not a) + m ≡ 1
    at_letter m true true e h = omega (arith, h)
    at_letter m false false e h = omega (arith, h)
    at_letter m true false e h = absurd (cc)
    at_letter m false true e h = absurd (cc)

-- the rank of a letter is positive
rank_positive : (w : List ℕ) (x : ℕ) → is_among x w ≡ true → 1 ≤ rank_in w x
rank_positive w zero h = omega (arith, rank_in-first w, ap one_if h)
rank_positive w (suc x) h = omega (arith, rank_in-suc w x, ap one_if h)

-- each number from 1 to a rank is the rank of a letter
rank_of_letter : (w : List ℕ) (x r : ℕ) → 1 ≤ r → r ≤ rank_in w x → (y : ℕ) × (is_among y w ≡ true) × (rank_in w y ≡ r)
rank_of_letter w zero r from to = by_letter (is_among 0 w) refl
  where
    by_letter : (b : Bool) → is_among 0 w ≡ b → (y : ℕ) × (is_among y w ≡ true) × (rank_in w y ≡ r)
    by_letter true e = (0, e, omega (arith, rank_in-first w, ap one_if e))
    by_letter false e = absurd (omega (arith, rank_in-first w, ap one_if e))
rank_of_letter w (suc x) r from to = by_letter (is_among (suc x) w) refl (cases_lt (rank_in w x) r) (λ le. rank_of_letter w x r from le)
  where
    by_letter : (b : Bool) → is_among (suc x) w ≡ b → (rank_in w x < r) ⊎ (r ≤ rank_in w x)
        → (r ≤ rank_in w x → (y : ℕ) × (is_among y w ≡ true) × (rank_in w y ≡ r)) → (y : ℕ) × (is_among y w ≡ true) × (rank_in w y ≡ r)
    by_letter b e (inr le) ih = ih le
    by_letter true e (inl less) ih = (suc x, e, omega (arith, rank_in-suc w x, ap one_if e))
    by_letter false e (inl less) ih = absurd (omega (arith, rank_in-suc w x, ap one_if e))

-- the image of a letter is a letter of the image
is_among-image : (f : ℕ → ℕ) (w : List ℕ) (y : ℕ) → is_among y w ≡ true → is_among (f y) (map f w) ≡ true
is_among-image f [] y h = absurd (cc)
is_among-image f (z ∷ w) y h = by_case (cases_eq z y) (λ k. is_among-image f w y k)
  where
    by_case : (z ≡ y) ⊎ (z ≡ y → ⊥) → (is_among y w ≡ true → is_among (f y) (map f w) ≡ true) → is_among (f y) (map f (z ∷ w)) ≡ true
    by_case (inl same) ih = or_left (nat_eq (f z) (f y)) (is_among (f y) (map f w)) (eq-eqb (f z) (f y) (ap f same))
    by_case (inr other) ih =
        let e : nat_eq z y ≡ false = ne_eqb z y other in
        or_right (nat_eq (f z) (f y)) (is_among (f y) (map f w)) (ih (sym (ap (λ b. b || is_among y w) e) ∙ h))

-- a number up to the greatest image is at most the image of a letter
to_image : (f : ℕ → ℕ) (w : List ℕ) (r : ℕ) → 1 ≤ r → r ≤ greatest (map f w) → (z : ℕ) × (is_among z w ≡ true) × (r ≤ f z)
to_image f [] r from to = absurd (omega arith)
to_image f (z ∷ w) r from to = by_case (cases_lt (f z) r) (λ k. to_image f w r from k)
  where
    by_case : (f z < r) ⊎ (r ≤ f z) → (r ≤ greatest (map f w) → (y : ℕ) × (is_among y w ≡ true) × (r ≤ f y)) → (y : ℕ) × (is_among y (z ∷ w) ≡ true) × (r ≤ f y)
    by_case (inr le) ih = (z, or_left (nat_eq z z) (is_among z w) (eq-eqb z z refl), le)
    by_case (inl less) ih = let rest = ih (omega arith) in (rest.0, or_right (nat_eq z rest.0) (is_among rest.0 w) rest.1, rest.2)

-- what each letter's image has, each letter of the image has
letters_of_image : (P : ℕ → Type 0) (f : ℕ → ℕ) (w : List ℕ) → ((x : ℕ) → is_among x w ≡ true → P (f x)) → Letters P (map f w)
letters_of_image P f [] h = tt
letters_of_image P f (x ∷ w) h =
    (h x (or_left (nat_eq x x) (is_among x w) (eq-eqb x x refl)), letters_of_image P f w (λ y k. h y (or_right (nat_eq x y) (is_among y w) k)))

-- the packing of a word is a packed word
pub packed-pack : (w : List ℕ) → HasAllLetters (pack w)
packed-pack w = record {
  positive = letters_of_image (λ x. 1 ≤ x) (λ x. rank_in w x) w (rank_positive w);
  each = λ r from to.
      let top = to_image (λ x. rank_in w x) w r from to in
      let y = rank_of_letter w top.0 r from top.2 in
      ap (λ n. is_among n (pack w)) (sym y.2) ∙ is_among-image (λ x. rank_in w x) w y.0 y.1;
}
