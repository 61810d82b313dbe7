-- The inverse of a permutation is a permutation, and its inverse is the permutation.
use Rattle.std.proofs.Common.{◌≡◌, ◌⊎◌, ℕ, zero, suc, ◌+◌, ◌-◌, ◌<◌, ◌≤◌, true, false, List, [], ◌∷◌, map, length, get_or, refl, sym, ◌∙◌, ap, arith, inl, inr}
use Rattle.std.specs.Prelude.{nat_eq}
use Rattle.std.specs.List.{range_with_len}
use Rattle.std.proofs.lemmas.Bool.{cases_eq, eq-eqb, ne_eqb}
use Rattle.std.proofs.lemmas.List.FromFn.{length-map-range_with_len}
use Rattle.realisations.specs.Lists.{one_if}
use Rattle.realisations.specs.Standardisation.{count_same, place_of, inverse}
use Rattle.basis_representatives.proofs.Counts.{one_if-self}
use Rattle.basis_representatives.proofs.Permutations.{HasEachOnce, count_same-permutation, letters-permutation}
use Rattle.basis_representatives.proofs.Ranges.{count_same-map_range_one, map_range_is, place_of-map_range}

-- where a letter stands first
pub record StandsAt (x : ℕ) (s : List ℕ) : Type 0 where
  pub at : ℕ
  pub in_range : at < length s
  pub place : place_of x s ≡ suc at
  pub letter : get_or s at 0 ≡ x

place_of-first : (x y : ℕ) (s : List ℕ) → y ≡ x → place_of x (y ∷ s) ≡ 1
place_of-first x y s same = let e : nat_eq y x ≡ true = eq-eqb y x same in rw e refl

place_of-next : (x y : ℕ) (s : List ℕ) (n : ℕ) → nat_eq y x ≡ false → place_of x s ≡ n → place_of x (y ∷ s) ≡ suc n
place_of-next x y s n e h = rw e (ap suc h)

-- a letter that occurs stands somewhere
pub stands_at : (x : ℕ) (s : List ℕ) → 1 ≤ count_same x s → StandsAt x s
stands_at x [] h = absurd (omega (arith, h))
stands_at x (y ∷ s) h = by_case (cases_eq y x) (λ k. stands_at x s k)
  where
    later : StandsAt x s → nat_eq y x ≡ false → StandsAt x (y ∷ s)
    later rest e = record { at = suc rest.at; in_range = omega (arith, rest.in_range); place = place_of-next x y s (suc rest.at) e rest.place; letter = rest.letter }

    by_case : (y ≡ x) ⊎ (y ≡ x → ⊥) → (1 ≤ count_same x s → StandsAt x s) → StandsAt x (y ∷ s)
    by_case (inl same) ih = record { at = 0; in_range = omega arith; place = place_of-first x y s same; letter = same }
    by_case (inr other) ih =
        let e : nat_eq y x ≡ false = ne_eqb y x other in
        later (ih (omega (arith, ap one_if e, h))) e

-- a letter at a place occurs
pub occurs-get_or : (s : List ℕ) (i : ℕ) → i < length s → 1 ≤ count_same (get_or s i 0) s
occurs-get_or [] i h = absurd (omega arith)
occurs-get_or (x ∷ s) zero h = omega (arith, one_if-self x)
occurs-get_or (x ∷ s) (suc i) h = omega (arith, occurs-get_or s i (omega arith))

-- where no letter stands twice, the letter at a place has this place
pub place_of-get_or : (s : List ℕ) → ((k : ℕ) → count_same k s ≤ 1) → (i : ℕ) → i < length s → place_of (get_or s i 0) s ≡ suc i
place_of-get_or [] d i h = absurd (omega arith)
place_of-get_or (x ∷ s) d zero h = let e : nat_eq x x ≡ true = eq-eqb x x refl in rw e refl
place_of-get_or (x ∷ s) d (suc i) h =
    let y = get_or s i 0 in
    let other : nat_eq x y ≡ false = ne_eqb x y (λ same.
    let one : one_if (nat_eq x y) ≡ 1 = ap (λ k. one_if (nat_eq k y)) same ∙ one_if-self y in
    omega (arith, d y, one, occurs-get_or s i (omega arith))) in
    rw other (ap suc (place_of-get_or s (λ k. omega (arith, d k)) i (omega arith)))

-- the inverse is as long
pub length-inverse : (s : List ℕ) → length (inverse s) ≡ length s
length-inverse s = length-map-range_with_len (λ i. place_of i s) 1 (length s)

module _ (s : List ℕ) (h : HasEachOnce s) where
  -- a number has the place i + 1 only where it is the letter there
  only_there : (i d : ℕ) → i < length s → d < length s → place_of (1 + d) s ≡ suc i → get_or s i 0 ≡ 1 + d
  only_there i d lt in_range place =
      let found : StandsAt (1 + d) s = stands_at (1 + d) s (omega (arith, h.once (1 + d) (omega arith) (omega arith))) in
      let same : i ≡ found.at = omega (arith, place, found.place) in
      ap (λ k. get_or s k 0) same ∙ found.letter

  -- the letter at a place is a number 1 + d
  letter_before : (i : ℕ) → i < length s → (d : ℕ) × (d < length s) × (get_or s i 0 ≡ 1 + d)
  letter_before i lt =
      let within = letters-permutation s h (get_or s i 0) (occurs-get_or s i lt) in
      (get_or s i 0 - 1, omega (arith, within.0, within.1), omega (arith, within.0))

  place_of-inverse : (i : ℕ) → i < length s → place_of (1 + i) (inverse s) ≡ get_or s i 0
  place_of-inverse i lt =
      let d = letter_before i lt in
      let next : 1 + i ≡ suc i = omega arith in
      ap (λ k. place_of k (inverse s)) next
      ∙ place_of-map_range (λ k. place_of k s) 1 (length s) (suc i) d.0 d.1
      (ap (λ k. place_of k s) (sym d.2) ∙ place_of-get_or s (count_same-permutation s h) i lt)
      (λ e less same. omega (arith, only_there i e lt (omega (arith, d.1)) same, d.2))
      ∙ omega (arith, d.2)

  -- the inverse of the inverse is the permutation
  pub inverse-inverse : inverse (inverse s) ≡ s
  inverse-inverse =
      ap (λ n. map (λ i. place_of i (inverse s)) (range_with_len 1 n)) (length-inverse s)
      ∙ map_range_is (λ i. place_of i (inverse s)) 1 s place_of-inverse

  count_same-inverse : (i : ℕ) → i < length s → count_same (suc i) (inverse s) ≡ 1
  count_same-inverse i lt =
      let d = letter_before i lt in
      count_same-map_range_one (λ k. place_of k s) 1 (length s) (suc i) d.0 d.1
      (ap (λ k. place_of k s) (sym d.2) ∙ place_of-get_or s (count_same-permutation s h) i lt)
      (λ e less other same. other (omega (arith, only_there i e lt less same, d.2)))

  -- the inverse of a permutation is a permutation
  pub permutation-inverse : HasEachOnce (inverse s)
  permutation-inverse = record { once = λ i from to. at i from (omega (arith, to, length-inverse s)) }
    where
      at : (i : ℕ) → 1 ≤ i → i ≤ length s → count_same i (inverse s) ≡ 1
      at zero from to = absurd (omega arith)
      at (suc i) from to = count_same-inverse i (omega arith)
