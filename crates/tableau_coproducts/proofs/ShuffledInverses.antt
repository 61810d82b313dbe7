-- The inverse of a shuffle of two permutations, the second raised above the first: the inverses of both, on the places that each has in the shuffle.
use Rattle.std.proofs.Common.{◌≡◌, ℕ, zero, suc, ◌+◌, ◌-◌, ◌≤◌, List, [], ◌∷◌, ◌++◌, map, length, refl, sym, ◌∙◌, ap, subst, arith, inl, inr}
use Rattle.std.specs.Prelude.{nat_eq}
use Rattle.std.specs.List.{range_with_len}
use Rattle.std.proofs.lemmas.Bool.{cases_lt}
use Rattle.std.proofs.lemmas.Bool.Decides.{nat_tests}
use Rattle.std.proofs.lemmas.List.{length-map}
use Rattle.realisations.specs.Lists.{one_if}
use Rattle.realisations.specs.Words.{raise}
use Rattle.realisations.specs.Standardisation.{count_same, place_of, inverse}
use Rattle.realisations.proofs.RisingMaps.{Letters}
use Rattle.basis_representatives.proofs.Permutations.{HasEachOnce, count_same-permutation, letters-permutation, letters_that_occur}
use Rattle.tableau_laws.proofs.NumberedRows.{map_range_alike}
use Rattle.tableau_coproducts.proofs.ShufflePlaces.{IsShuffled, AreFresh}

-- the test of raised letters
same_raised : (m i y : ℕ) → nat_eq (m + y) (m + i) ≡ nat_eq y i
same_raised m i y = grind (arith, nat_tests)

-- a raised word has the raised letters
count_same-raise : (m i : ℕ) (t : List ℕ) → count_same (m + i) (raise m t) ≡ count_same i t
count_same-raise m i [] = refl
count_same-raise m i (y ∷ t) = λ j. one_if (same_raised m i y j) + count_same-raise m i t j

-- its places
place_of-raise : (m i : ℕ) (t : List ℕ) → place_of (m + i) (raise m t) ≡ place_of i t
place_of-raise m i [] = refl
place_of-raise m i (y ∷ t) = rw (same_raised m i y, place_of-raise m i t) refl

-- it has no letter up to m
none_low : (m k : ℕ) (t : List ℕ) → Letters (λ y. 1 ≤ y) t → k ≤ m → count_same k (raise m t) ≡ 0
none_low m k [] h le = refl
none_low m k (y ∷ t) h le = let apart : one_if (nat_eq (m + y) k) ≡ 0 = far m y k h.0 le in omega (arith, apart, none_low m k t h.1 le)
  where
    far : (m y k : ℕ) → 1 ≤ y → k ≤ m → one_if (nat_eq (m + y) k) ≡ 0
    far m y k a b = grind (arith, nat_tests)

module _ (s t : List ℕ) (hs : HasEachOnce s) (ht : HasEachOnce t) where
  -- past the length of the first no letter of it stands
  none_high : (i : ℕ) → 1 ≤ i → count_same (length s + i) s ≡ 0
  none_high i from = elim (cases_lt 0 (count_same (length s + i) s)) [
    | inl some ↦ absurd (omega (arith, from, (letters-permutation s hs (length s + i) some).1))
    | inr none ↦ omega (arith, none)
  ]

  -- up to it no letter of the second does
  none_raised : (k : ℕ) → k ≤ length s → count_same k (raise (length s) t) ≡ 0
  none_raised k le = none_low (length s) k t (letters_that_occur (λ y. 1 ≤ y) t (λ y occurs. (letters-permutation t ht y occurs).0)) le

  -- so no letter stands twice
  pub fresh_together : AreFresh s (raise (length s) t)
  fresh_together k = elim (cases_lt (length s) k) [
    | inl past ↦ high (k - length s) (omega (arith, past)) (omega (arith, past))
    | inr within ↦ omega (arith, count_same-permutation s hs k, none_raised k (omega (arith, within)))
  ]
    where
      high : (i : ℕ) → 1 ≤ i → length s + i ≡ k → count_same k s + count_same k (raise (length s) t) ≤ 1
      high i from e =
          subst (λ k. count_same k s + count_same k (raise (length s) t) ≤ 1) e
          (omega (arith, none_high i from, count_same-raise (length s) i t, count_same-permutation t ht i))

  module _ (w : List ℕ) (f g : ℕ → ℕ) (h : IsShuffled s (raise (length s) t) w f g) where
    -- a shuffle has the size of both
    length-shuffled : length w ≡ length s + length t
    length-shuffled = omega (arith, h.size, length-map t (λ x. length s + x))

    -- it is a permutation
    pub permutation-shuffled : HasEachOnce w
    permutation-shuffled = record { once = λ k from to. once k from (omega (arith, to, length-shuffled)) }
      where
        high : (k i : ℕ) → 1 ≤ i → i ≤ length t → length s + i ≡ k → count_same k w ≡ 1
        high k i from to e =
            subst (λ k. count_same k w ≡ 1) e
            (omega (arith, h.counts (length s + i), none_high i from, count_same-raise (length s) i t, ht.once i from to))

        once : (k : ℕ) → 1 ≤ k → k ≤ length s + length t → count_same k w ≡ 1
        once k from to = elim (cases_lt (length s) k) [
          | inl past ↦ high k (k - length s) (omega (arith, past)) (omega (arith, past, to)) (omega (arith, past))
          | inr within ↦ omega (arith, h.counts k, hs.once k from (omega (arith, within)), none_raised k (omega (arith, within)))
        ]

    -- a range in two parts, the second moved
    two_ranges : (p : ℕ → ℕ) (a m n : ℕ) → map p (range_with_len a (m + n)) ≡ map p (range_with_len a m) ++ map (λ i. p (m + i)) (range_with_len a n)
    two_ranges p a zero n = let e : 0 + n ≡ n = omega arith in rw e (map_range_alike p (λ i. p (0 + i)) a n (λ k low high. ap p (omega arith)))
    two_ranges p a (suc m) n =
        let e : suc m + n ≡ suc (m + n) = omega arith in
        rw e (ap (λ w. p a ∷ w)
        (two_ranges p (a + 1) m n
        ∙ ap (λ w. map p (range_with_len (a + 1) m) ++ w) (moved p m (a + 1) a n (omega arith))))
      where
        moved : (p : ℕ → ℕ) (m b a n : ℕ) → b ≡ suc a → map (λ i. p (m + i)) (range_with_len b n) ≡ map (λ i. p (suc m + i)) (range_with_len a n)
        moved p m b a zero e = refl
        moved p m b a (suc n) e =
            let first : p (m + b) ≡ p (suc m + a) = ap p (omega (arith, e)) in
            let rest = moved p m (b + 1) (a + 1) n (omega (arith, e)) in
            λ i. first i ∷ rest i

    map-map : (p q : ℕ → ℕ) (w : List ℕ) → map p (map q w) ≡ map (λ x. p (q x)) w
    map-map p q [] = refl
    map-map p q (x ∷ w) = ap (λ v. p (q x) ∷ v) (map-map p q w)

    -- its inverse: the inverse of the first permutation on the places of the first word, followed by that of the second on the places of the second
    pub inverse-shuffled : inverse w ≡ map f (inverse s) ++ map g (inverse t)
    inverse-shuffled =
        ap (λ n. map (λ i. place_of i w) (range_with_len 1 n)) length-shuffled
        ∙ two_ranges (λ i. place_of i w) 1 (length s) (length t)
        ∙ (λ j. front j ++ back j)
      where
        front : map (λ i. place_of i w) (range_with_len 1 (length s)) ≡ map f (inverse s)
        front =
            map_range_alike (λ i. place_of i w) (λ i. f (place_of i s)) 1 (length s) (λ k low high. h.first k (omega (arith, hs.once k low (omega (arith, high)))))
            ∙ sym (map-map f (λ i. place_of i s) (range_with_len 1 (length s)))

        back : map (λ i. place_of (length s + i) w) (range_with_len 1 (length t)) ≡ map g (inverse t)
        back =
            map_range_alike (λ i. place_of (length s + i) w) (λ i. g (place_of i t)) 1 (length t)
            (λ k low high.
            h.second (length s + k) (omega (arith, count_same-raise (length s) k t, ht.once k low (omega (arith, high))))
            ∙ ap g (place_of-raise (length s) k t))
            ∙ sym (map-map g (λ i. place_of i t) (range_with_len 1 (length t)))
