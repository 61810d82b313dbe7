-- The places of the letters of two words in a shuffle of both.
use Rattle.std.proofs.Common.{◌≡◌, ℕ, zero, suc, ◌+◌, ◌<◌, ◌≤◌, Bool, true, false, List, [], ◌∷◌, length, refl, ap, arith}
use Rattle.std.specs.Prelude.{nat_eq}
use Rattle.std.proofs.lemmas.Bool.{eqb-true}
use Rattle.realisations.specs.Lists.{one_if}
use Rattle.realisations.specs.Standardisation.{count_same, place_of}
use Rattle.coproduct_laws.proofs.Shuffling.{over_shuffles, over_shuffles-step}
use Rattle.basis_representatives.proofs.Counts.{one_if-self}

-- a map of places: it rises, and there is no place 0
pub record Places (f : ℕ → ℕ) : Type 0 where
  pub at_zero : f 0 ≡ 0
  pub rise : (i j : ℕ) → i < j → f i < f j

-- a word w with the letters of u and v, each at the place to which f or g brings its place in u or v
pub record IsShuffled (u v w : List ℕ) (f g : ℕ → ℕ) : Type 0 where
  pub counts : (k : ℕ) → count_same k w ≡ count_same k u + count_same k v
  pub size : length w ≡ length u + length v
  pub first : (k : ℕ) → 1 ≤ count_same k u → place_of k w ≡ f (place_of k u)
  pub second : (k : ℕ) → 1 ≤ count_same k v → place_of k w ≡ g (place_of k v)

-- no letter stands twice in the two words
abbrev pub AreFresh : List ℕ → List ℕ → Type 0
AreFresh u v = (k : ℕ) → count_same k u + count_same k v ≤ 1

-- the places of a word whose first letter comes next
abbrev pub with_first : (ℕ → ℕ) → ℕ → ℕ
with_first f zero = zero
with_first f (suc k) = suc (f k)

-- the places of a word that waits while a letter comes
abbrev pub with_other : (ℕ → ℕ) → ℕ → ℕ
with_other f zero = zero
with_other f (suc k) = suc (f (suc k))

-- the first is a map of places
places-with_first : (f : ℕ → ℕ) → Places f → Places (with_first f)
places-with_first f h = record { at_zero = refl; rise = up }
  where
    up : (i j : ℕ) → i < j → with_first f i < with_first f j
    up zero zero l = absurd (omega (arith, l))
    up zero (suc j) l = omega arith
    up (suc i) zero l = absurd (omega (arith, l))
    up (suc i) (suc j) l = let k = h.rise i j (omega (arith, l)) in omega (arith, k)

-- and the second is
places-with_other : (f : ℕ → ℕ) → Places f → Places (with_other f)
places-with_other f h = record { at_zero = refl; rise = up }
  where
    up : (i j : ℕ) → i < j → with_other f i < with_other f j
    up zero zero l = absurd (omega (arith, l))
    up zero (suc j) l = omega arith
    up (suc i) zero l = absurd (omega (arith, l))
    up (suc i) (suc j) l = let k = h.rise (suc i) (suc j) l in omega (arith, k)

-- it moves each place by one
with_other-positive : (f : ℕ → ℕ) (n : ℕ) → 1 ≤ n → with_other f n ≡ suc (f n)
with_other-positive f zero h = absurd (omega (arith, h))
with_other-positive f (suc n) h = refl

-- a letter that occurs has a place
pub place_positive : (k : ℕ) (w : List ℕ) → 1 ≤ count_same k w → 1 ≤ place_of k w
place_positive k [] h = absurd (omega (arith, h))
place_positive k (x ∷ w) h = by_test (nat_eq x k) refl
  where
    by_test : (b : Bool) → nat_eq x k ≡ b → 1 ≤ place_of k (x ∷ w)
    by_test true e = rw e (omega arith)
    by_test false e = rw e (omega arith)

-- the words may change their names
shuffled-turned : (u v w : List ℕ) (f g : ℕ → ℕ) → IsShuffled u v w f g → IsShuffled v u w g f
shuffled-turned u v w f g h = record {
  counts = λ k. omega (arith, h.counts k);
  size = omega (arith, h.size);
  first = h.second;
  second = h.first;
}

-- a first letter of the first word
shuffled-first : (x : ℕ) (u v w : List ℕ) (f g : ℕ → ℕ) → count_same x v ≡ 0 → Places f → IsShuffled u v w f g → IsShuffled (x ∷ u) v (x ∷ w) (with_first f) (with_other g)
shuffled-first x u v w f g none places h = record {
  counts = λ k. omega (arith, h.counts k);
  size = omega (arith, h.size);
  first = λ k occurs. own k occurs (nat_eq x k) refl;
  second = λ k occurs. other k occurs (nat_eq x k) refl;
}
  where
    own : (k : ℕ) → 1 ≤ count_same k (x ∷ u) → (b : Bool) → nat_eq x k ≡ b → place_of k (x ∷ w) ≡ with_first f (place_of k (x ∷ u))
    own k occurs true e = rw e (omega (arith, places.at_zero))
    own k occurs false e =
        let rest : 1 ≤ count_same k u = omega (arith, occurs, ap one_if e) in
        rw e (ap suc (h.first k rest))

    other : (k : ℕ) → 1 ≤ count_same k v → (b : Bool) → nat_eq x k ≡ b → place_of k (x ∷ w) ≡ with_other g (place_of k v)
    other k occurs true e = absurd (omega (arith, occurs, none, ap (λ n. count_same n v) (eqb-true x k e)))
    other k occurs false e = rw e (omega (arith, h.second k occurs, with_other-positive g (place_of k v) (place_positive k v occurs)))

-- functions that agree at all pairs of words that are shuffled in the same way have one sum over the shuffles of two pairs of words
pub over_shuffles_alike : (p q : List ℕ → ℕ) (u v u' v' : List ℕ) → length u ≡ length u' → length v ≡ length v' → AreFresh u v → AreFresh u' v'
    → ((f g : ℕ → ℕ) (w w' : List ℕ) → Places f → Places g → IsShuffled u v w f g → IsShuffled u' v' w' f g → p w ≡ q w')
    → over_shuffles p u v ≡ over_shuffles q u' v'
over_shuffles_alike p q [] v [] v' eu ev fresh fresh' same =
    let id : Places (λ k. k) = record { at_zero = refl; rise = λ i j l. l } in
    omega (
      arith,
      same (λ k. k) (λ k. k) v v' id id
          (record { counts = λ k. omega arith; size = omega arith; first = λ k h. absurd (omega (arith, h)); second = λ k h. refl })
          (record { counts = λ k. omega arith; size = omega arith; first = λ k h. absurd (omega (arith, h)); second = λ k h. refl }),
    )
over_shuffles_alike p q [] v (x' ∷ u') v' eu ev fresh fresh' same = absurd (omega (arith, eu))
over_shuffles_alike p q (x ∷ u) v [] v' eu ev fresh fresh' same = absurd (omega (arith, eu))
over_shuffles_alike p q (x ∷ u) [] (x' ∷ u') [] eu ev fresh fresh' same =
    let id : Places (λ k. k) = record { at_zero = refl; rise = λ i j l. l } in
    omega (
      arith,
      same (λ k. k) (λ k. k) (x ∷ u) (x' ∷ u') id id
          (record { counts = λ k. omega arith; size = omega arith; first = λ k h. refl; second = λ k h. absurd (omega (arith, h)) })
          (record { counts = λ k. omega arith; size = omega arith; first = λ k h. refl; second = λ k h. absurd (omega (arith, h)) }),
    )
over_shuffles_alike p q (x ∷ u) [] (x' ∷ u') (y' ∷ v') eu ev fresh fresh' same = absurd (omega (arith, ev))
over_shuffles_alike p q (x ∷ u) (y ∷ v) (x' ∷ u') [] eu ev fresh fresh' same = absurd (omega (arith, ev))
over_shuffles_alike p q (x ∷ u) (y ∷ v) (x' ∷ u') (y' ∷ v') eu ev fresh fresh' same =
    omega (
      arith,
      over_shuffles-step p x u y v,
      over_shuffles-step q x' u' y' v',
      over_shuffles_alike (λ w. p (x ∷ w)) (λ w. q (x' ∷ w)) u (y ∷ v) u' (y' ∷ v') (omega (arith, eu)) ev (λ k. omega (arith, fresh k)) (λ k. omega (arith, fresh' k))
          (λ f g w w' hf hg h h'.
          same (with_first f) (with_other g) (x ∷ w) (x' ∷ w') (places-with_first f hf) (places-with_other g hg)
          (shuffled-first x u (y ∷ v) w f g (omega (arith, fresh x, one_if-self x)) hf h)
          (shuffled-first x' u' (y' ∷ v') w' f g (omega (arith, fresh' x', one_if-self x')) hf h')),
      over_shuffles_alike (λ w. p (y ∷ w)) (λ w. q (y' ∷ w)) (x ∷ u) v (x' ∷ u') v' eu (omega (arith, ev)) (λ k. omega (arith, fresh k)) (λ k. omega (arith, fresh' k))
          (λ f g w w' hf hg h h'.
          same (with_other f) (with_first g) (y ∷ w) (y' ∷ w') (places-with_other f hf) (places-with_first g hg)
          (shuffled-turned (y ∷ v) (x ∷ u) (y ∷ w) (with_first g) (with_other f)
          (shuffled-first y v (x ∷ u) w g f (omega (arith, fresh y, one_if-self y)) hg (shuffled-turned (x ∷ u) v w f g h)))
          (shuffled-turned (y' ∷ v') (x' ∷ u') (y' ∷ w') (with_first g) (with_other f)
          (shuffled-first y' v' (x' ∷ u') w' g f (omega (arith, fresh' y', one_if-self y')) hg (shuffled-turned (x' ∷ u') v' w' f g h')))),
    )
