-- How many letters of a word are below a number, equal to it, or at most it.
use Rattle.std.proofs.Common.{◌≡◌, ℕ, suc, ◌+◌, ◌<◌, ◌≤◌, Bool, true, false, List, [], ◌∷◌, ◌++◌, length, refl, ap, arith}
use Rattle.std.specs.Prelude.{nat_eq, nat_lt}
use Rattle.std.proofs.lemmas.Bool.Decides.{nat_tests}
use Rattle.realisations.specs.Lists.{one_if, count, is_among}
use Rattle.realisations.specs.Standardisation.{count_below, count_same}
use Rattle.realisations.proofs.RisingMaps.{Letters}

-- how many letters are at most x
abbrev pub count_to : ℕ → List ℕ → ℕ
count_to x w = count_below x w + count_same x w

-- a letter is at most x, or x is below it
pub count_to-cons : (x y : ℕ) (w : List ℕ) → count_to x (y ∷ w) + one_if (nat_lt x y) ≡ 1 + count_to x w
count_to-cons x y w = let k : one_if (nat_lt y x) + one_if (nat_eq y x) + one_if (nat_lt x y) ≡ 1 = grind (arith, nat_tests) in omega arith

-- counts rise with the number
pub counts_up : (x y : ℕ) (w : List ℕ) → x ≤ y → (count_below x w ≤ count_below y w) × (count_to x w ≤ count_to y w) × (count_below x w ≤ count_to x w)
counts_up x y [] h = (omega arith, omega arith, omega arith)
counts_up x y (z ∷ w) h =
    let below : one_if (nat_lt z x) ≤ one_if (nat_lt z y) = grind (arith, nat_tests) in
    let up : one_if (nat_lt z x) + one_if (nat_eq z x) ≤ one_if (nat_lt z y) + one_if (nat_eq z y) = grind (arith, nat_tests) in
    (omega (arith, counts_up x y w h), omega (arith, counts_up x y w h), omega (arith, counts_up x y w h))

-- those at most x are below each greater y
pub counts_across : (x y : ℕ) (w : List ℕ) → x < y → count_to x w ≤ count_below y w
counts_across x y [] h = omega arith
counts_across x y (z ∷ w) h =
    let up : one_if (nat_lt z x) + one_if (nat_eq z x) ≤ one_if (nat_lt z y) = grind (arith, nat_tests) in
    omega (arith, counts_across x y w h)

-- in two words together there are at most x as many as in both
pub count_to-append : (x : ℕ) (u v : List ℕ) → count_to x (u ++ v) ≡ count_to x u + count_to x v
count_to-append x [] v = omega arith
count_to-append x (y ∷ u) v = omega (arith, count_to-append x u v)

-- a test holds of no more letters than there are
pub count_within : (test : ℕ → Bool) (w : List ℕ) → count test w ≤ length w
count_within test [] = omega arith
count_within test (x ∷ w) = omega (arith, count_within test w, at_most (test x))
  where
    at_most : (b : Bool) → one_if b ≤ 1
    at_most true = omega arith
    at_most false = omega arith

-- a test that holds of as many letters as there are holds of each
pub count_all : (test : ℕ → Bool) (w : List ℕ) → count test w ≡ length w → Letters (λ x. test x ≡ true) w
count_all test [] h = tt
count_all test (x ∷ w) h = by_test (test x) refl (λ k. count_all test w k)
  where
    by_test : (b : Bool) → test x ≡ b → (count test w ≡ length w → Letters (λ y. test y ≡ true) w) → (test x ≡ true) × Letters (λ y. test y ≡ true) w
    by_test true e ih = (e, ih (let one : one_if (test x) ≡ 1 = rw e refl in omega (arith, one, h)))
    by_test false e ih = absurd (let none : one_if (test x) ≡ 0 = rw e refl in omega (arith, none, h, count_within test w))

-- a test that holds of none holds of no letter
pub count_none : (test : ℕ → Bool) (w : List ℕ) → count test w ≡ 0 → Letters (λ x. test x ≡ false) w
count_none test [] h = tt
count_none test (x ∷ w) h = (by_test (test x) refl, count_none test w (omega (arith, h)))
  where
    by_test : (b : Bool) → test x ≡ b → test x ≡ false
    by_test true e = absurd (let one : one_if (test x) ≡ 1 = rw e refl in omega (arith, one, h))
    by_test false e = e

-- below x + 1 are those below x and those equal to x
pub count_below-suc : (x : ℕ) (w : List ℕ) → count_below (suc x) w ≡ count_below x w + count_same x w
count_below-suc x [] = omega arith
count_below-suc x (y ∷ w) =
    let one : one_if (nat_lt y (suc x)) ≡ one_if (nat_lt y x) + one_if (nat_eq y x) = grind (arith, nat_tests) in
    omega (arith, one, count_below-suc x w)

-- no letter is below 0
pub count_below-zero : (w : List ℕ) → count_below 0 w ≡ 0
count_below-zero [] = refl
count_below-zero (y ∷ w) = let none : one_if (nat_lt y 0) ≡ 0 = grind (arith, nat_tests) in omega (arith, none, count_below-zero w)

-- a letter is equal to itself
pub one_if-self : (x : ℕ) → one_if (nat_eq x x) ≡ 1
one_if-self x = grind (arith, nat_tests)

-- equal to k
pub count_same-append : (k : ℕ) (u v : List ℕ) → count_same k (u ++ v) ≡ count_same k u + count_same k v
count_same-append k [] v = omega arith
count_same-append k (x ∷ u) v = omega (arith, count_same-append k u v)

-- below k
pub count_below-append : (k : ℕ) (u v : List ℕ) → count_below k (u ++ v) ≡ count_below k u + count_below k v
count_below-append k [] v = omega arith
count_below-append k (x ∷ u) v = omega (arith, count_below-append k u v)

-- a letter that is counted is among the letters
pub among_some : (i : ℕ) (w : List ℕ) → 1 ≤ count_same i w → is_among i w ≡ true
among_some i [] h = absurd (omega (arith, h))
among_some i (y ∷ w) h = by_case (nat_eq y i) refl (λ k. among_some i w k)
  where
    by_case : (b : Bool) → nat_eq y i ≡ b → (1 ≤ count_same i w → is_among i w ≡ true) → is_among i (y ∷ w) ≡ true
    by_case true e ih = rw e refl
    by_case false e ih = rw e (ih (omega (arith, ap one_if e, h)))

-- and one that is not counted is not
pub among_none : (i : ℕ) (w : List ℕ) → count_same i w ≡ 0 → is_among i w ≡ false
among_none i [] h = refl
among_none i (y ∷ w) h = by_case (nat_eq y i) refl
    (among_none i w (omega (arith, h)))
  where
    by_case : (b : Bool) → nat_eq y i ≡ b → is_among i w ≡ false → is_among i (y ∷ w) ≡ false
    by_case true e ih = absurd (omega (arith, ap one_if e, h))
    by_case false e ih = rw e ih
