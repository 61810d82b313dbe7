-- The nondecreasing word of exponents rises at the same places as that of the exponents without their zeros.
use Rattle.std.proofs.Common.{◌≡◌, ℕ, zero, suc, ◌<◌, List, [], ◌∷◌, ◌++◌, length, refl, ap, arith}
use Rattle.std.specs.Prelude.{nat_lt, replicate}
use Rattle.std.proofs.lemmas.Bool.Decides.{nat_tests}
use Rattle.realisations.specs.Exponents.{without_zeros, nondecreasing_from, nondecreasing_word}
use Rattle.realisations.specs.Descents.{places_where, ascents}

-- two words of one length that rise at the same places
abbrev RiseAlike : List ℕ → List ℕ → Type 0
RiseAlike [] [] = Unit {0}
RiseAlike (x ∷ []) (y ∷ []) = Unit {0}
RiseAlike (x ∷ x' ∷ u) (y ∷ y' ∷ v) = (nat_lt x x' ≡ nat_lt y y') × RiseAlike (x' ∷ u) (y' ∷ v)
RiseAlike _ _ = ⊥

places-alike : (k : ℕ) (u v : List ℕ) → RiseAlike u v → places_where (λ x y. nat_lt x y) k u ≡ places_where (λ x y. nat_lt x y) k v
places-alike k [] [] h = refl
places-alike k [] (y ∷ v) h = absurd h
places-alike k (x ∷ []) [] h = absurd h
places-alike k (x ∷ x' ∷ u) [] h = absurd h
places-alike k (x ∷ []) (y ∷ []) h = refl
places-alike k (x ∷ []) (y ∷ y' ∷ v) h = absurd h
places-alike k (x ∷ x' ∷ u) (y ∷ []) h = absurd h
places-alike k (x ∷ x' ∷ u) (y ∷ y' ∷ v) h = rw (h.0, places-alike (suc k) (x' ∷ u) (y' ∷ v) h.1)

length-alike : (u v : List ℕ) → RiseAlike u v → length u ≡ length v
length-alike [] [] h = refl
length-alike [] (y ∷ v) h = absurd h
length-alike (x ∷ []) [] h = absurd h
length-alike (x ∷ x' ∷ u) [] h = absurd h
length-alike (x ∷ []) (y ∷ []) h = refl
length-alike (x ∷ []) (y ∷ y' ∷ v) h = absurd h
length-alike (x ∷ x' ∷ u) (y ∷ []) h = absurd h
length-alike (x ∷ x' ∷ u) (y ∷ y' ∷ v) h = ap suc (length-alike (x' ∷ u) (y' ∷ v) h.1)

tails-alike : (x y : ℕ) (u v : List ℕ) → RiseAlike (x ∷ u) (y ∷ v) → RiseAlike u v
tails-alike x y [] [] h = tt
tails-alike x y [] (y' ∷ v) h = absurd h
tails-alike x y (x' ∷ u) [] h = absurd h
tails-alike x y (x' ∷ u) (y' ∷ v) h = h.1

-- a block of equal letters in front
block-alike : (n i j : ℕ) (u v : List ℕ) → RiseAlike (i ∷ u) (j ∷ v) → RiseAlike (i ∷ (replicate n i ++ u)) (j ∷ (replicate n j ++ v))
block-alike zero i j u v h = h
block-alike (suc n) i j u v h =
    let flat : nat_lt i i ≡ nat_lt j j = grind (arith, nat_tests) in
    (flat, block-alike n i j u v h)

-- behind letters that are smaller than the ones to come
behind-alike : (p : List ℕ) (i j x y : ℕ) → x < i → y < j → RiseAlike (x ∷ nondecreasing_from i p) (y ∷ nondecreasing_from j (without_zeros p))
behind-alike [] i j x y hx hy = tt
behind-alike (zero ∷ p) i j x y hx hy = behind-alike p (suc i) j x y (omega arith) hy
behind-alike (suc n ∷ p) i j x y hx hy =
    let rise : nat_lt x i ≡ nat_lt y j = grind (arith, nat_tests) in
    (rise, block-alike n i j (nondecreasing_from (suc i) p) (nondecreasing_from (suc j) (without_zeros p)) (behind-alike p (suc i) (suc j) i j (omega arith) (omega arith)))

words-alike : (p : List ℕ) → RiseAlike (nondecreasing_word p) (nondecreasing_word (without_zeros p))
words-alike p = tails-alike 0 0 _ _ (behind-alike p 1 1 0 0 (omega arith) (omega arith))

pub ascents-without_zeros : (p : List ℕ) → ascents (nondecreasing_word p) ≡ ascents (nondecreasing_word (without_zeros p))
ascents-without_zeros p = places-alike 1 _ _ (words-alike p)

pub length-without_zeros : (p : List ℕ) → length (nondecreasing_word p) ≡ length (nondecreasing_word (without_zeros p))
length-without_zeros p = length-alike _ _ (words-alike p)
