-- The inverse of a shuffle of a permutation with a raised one, in its two parts.
use Rattle.std.proofs.Common.{◌≡◌, ℕ, zero, suc, ◌+◌, ◌-◌, ◌<◌, ◌≤◌, Bool, true, false, List, [], ◌∷◌, map, refl, sym, ◌∙◌, ap, arith}
use Rattle.std.specs.Prelude.{nat_le, nat_eq, ◌||◌, ◌&&◌}
use Rattle.std.specs.List.{range_with_len, AllByRecursion}
use Rattle.std.proofs.lemmas.Bool.Decides.{nat_tests}
use Rattle.realisations.specs.Lists.{is_among}
use Rattle.realisations.specs.Words.{raise, shuffles}
use Rattle.realisations.specs.Standardisation.{place_of, inverse, standardise}
use Rattle.realisations.proofs.RisingMaps.{Letters}
use Rattle.realisations.proofs.Every.{every-weaker}
use Rattle.pairing_laws.proofs.StandardOrder.{standardise-same_order}
use Rattle.pairing_laws.proofs.ShuffledWords.{KeepsOrder, Disjoint, shuffles_keep_order}
use Rattle.pairing_laws.proofs.PermutationsOfSize.{IsPermutationOf, letters_are}

-- the places of n numbers, from a on
abbrev pub places : List ℕ → ℕ → ℕ → List ℕ
places s a n = map (λ k. place_of k s) (range_with_len a n)

-- what each number of a range has
letters_of_range : (P : ℕ → Type 0) (n a : ℕ) → ((k : ℕ) → a ≤ k → k < a + n → P k) → Letters P (range_with_len a n)
letters_of_range P zero a h = tt
letters_of_range P (suc n) a h = (h a (omega arith) (omega arith), letters_of_range P n (a + 1) (λ k low high. h k (omega arith) (omega arith)))

same_if_raised : (i x y : ℕ) → nat_eq (i + x) (i + y) ≡ nat_eq x y
same_if_raised i x y = grind (arith, nat_tests)

-- raised letters stand where the letters stood
is_among-raise : (i k : ℕ) (t : List ℕ) → is_among (i + k) (raise i t) ≡ is_among k t
is_among-raise i k [] = refl
is_among-raise i k (y ∷ t) = rw (same_if_raised i y k, is_among-raise i k t)

place_of-raise : (i k : ℕ) (t : List ℕ) → place_of (i + k) (raise i t) ≡ place_of k t
place_of-raise i k [] = refl
place_of-raise i k (y ∷ t) = rw (same_if_raised i y k, place_of-raise i k t)

places-raise : (i : ℕ) (t : List ℕ) (n a : ℕ) → places (raise i t) (i + a) n ≡ places t a n
places-raise i t zero a = refl
places-raise i t (suc n) a =
    let next : i + a + 1 ≡ i + (a + 1) = omega arith in
    let first = place_of-raise i a t in
    let rest = ap (λ b. places (raise i t) b n) next ∙ places-raise i t n (a + 1) in
    λ i. first i ∷ rest i

-- no raised letter is among the numbers up to i
raised_above : (i k : ℕ) (t : List ℕ) → k ≤ i → is_among 0 t ≡ false → is_among k (raise i t) ≡ false
raised_above i k [] low none = refl
raised_above i k (y ∷ t) low none = by_test (nat_eq y 0) refl none (raised_above i k t low)
  where
    by_test : (b : Bool) → nat_eq y 0 ≡ b → (b || is_among 0 t) ≡ false → (is_among 0 t ≡ false → is_among k (raise i t) ≡ false)
        → (nat_eq (i + y) k || is_among k (raise i t)) ≡ false
    by_test true e h rest = absurd (cc)
    by_test false e h rest =
        let other : nat_eq (i + y) k ≡ false = grind (arith, nat_tests, e) in
        ap (λ b. b || is_among k (raise i t)) other ∙ rest h

module _ (i j : ℕ) (s t : List ℕ) (hs : IsPermutationOf i s) (ht : IsPermutationOf j t) where
  letters_apart : Disjoint s (raise i t)
  letters_apart k h =
      let low : (nat_le 1 k && nat_le k i) ≡ true = sym (letters_are i s hs k) ∙ h in
      raised_above i k t (below (nat_le 1 k) (nat_le k i) refl low) (letters_are j t ht 0)
    where
      below : (a b : Bool) → nat_le k i ≡ b → (a && b) ≡ true → k ≤ i
      below true true e h = grind (arith, nat_tests, e)
      below true false e h = absurd (cc)
      below false b e h = absurd (cc)

  both : (a b : Bool) → a ≡ true → b ≡ true → (a && b) ≡ true
  both true b e f = f
  both false b e f = absurd (cc)

  low_letters : Letters (λ k. is_among k s ≡ true) (range_with_len 1 i)
  low_letters =
      letters_of_range (λ k. is_among k s ≡ true) i 1
      (λ k low high. letters_are i s hs k ∙ both (nat_le 1 k) (nat_le k i) (grind (arith, nat_tests)) (grind (arith, nat_tests)))

  high_letters : Letters (λ k. is_among k (raise i t) ≡ true) (range_with_len (i + 1) j)
  high_letters =
      letters_of_range (λ k. is_among k (raise i t) ≡ true) j (i + 1)
      (λ k low high.
      let back : k ≡ i + (k - i) = omega arith in
      ap (λ m. is_among m (raise i t)) back ∙ is_among-raise i (k - i) t
      ∙ letters_are j t ht (k - i) ∙ both (nat_le 1 (k - i)) (nat_le (k - i) j) (grind (arith, nat_tests)) (grind (arith, nat_tests)))

  -- the places of 1, .., i have the order of the inverse of the first, and those of i + 1, .., i + j that of the second
  pub inverses_of_shuffles : AllByRecursion (λ x. (standardise (places x 1 i) ≡ standardise (inverse s)) × (standardise (places x (i + 1) j) ≡ standardise (inverse t))) (shuffles s (raise i t))
  inverses_of_shuffles =
      every-weaker (λ x. Disjoint s (raise i t) → KeepsOrder s x × KeepsOrder (raise i t) x) _
      (λ x keeps.
      let kept = keeps letters_apart in (
        standardise-same_order (λ k. is_among k s ≡ true) (λ k. place_of k x) (λ k. place_of k s) kept.0.order (range_with_len 1 i) low_letters
            ∙ ap (λ n. standardise (places s 1 n)) (sym hs.size),
        standardise-same_order (λ k. is_among k (raise i t) ≡ true) (λ k. place_of k x) (λ k. place_of k (raise i t)) kept.1.order (range_with_len (i + 1) j) high_letters
            ∙ ap standardise (places-raise i t j 1)
            ∙ ap (λ n. standardise (places t 1 n)) (sym ht.size),
      ))
      (shuffles s (raise i t)) (shuffles_keep_order s (raise i t))
