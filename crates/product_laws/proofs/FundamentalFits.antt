-- Where a fundamental quasi-symmetric function occurs, exponent by exponent.
use Rattle.std.proofs.Common.{◌≡◌, ℕ, zero, suc, ◌<◌, ◌≤◌, Bool, true, false, List, [], ◌∷◌, ◌++◌, length, take, drop, refl, sym, ◌∙◌, ap, arith, inl, inr}
use Rattle.std.specs.Prelude.{nat_eq, nat_lt, nat_le, not, ◌&&◌, ◌||◌, if◌then◌else◌, replicate}
use Rattle.std.proofs.lemmas.Bool.{eq-eqb, ne_eqb, cases_eq, and_from, and_parts}
use Rattle.std.proofs.lemmas.Bool.Decides.{nat_tests}
use Rattle.basis_names.specs.declared.bases.BasisId.TheVariants.{QsymF}
use Rattle.realisations.specs.Descents.{places_where, descents, ascents, descent_composition}
use Rattle.realisations.specs.Exponents.{nondecreasing_from, nondecreasing_word}
use Rattle.realisations.specs.Lists.{is_among, is_subset}
use Rattle.realisations.specs.Occurrence.{occurs}
use Rattle.realisations.proofs.DescentCompositions.{descends}
use Rattle.product_laws.proofs.MultiplicativeBases.{none_before}
use Rattle.product_laws.proofs.RisingShuffles.{all_from, all_from_smaller, is_nondecreasing}
use Rattle.product_laws.proofs.Tests.{same_tests}

-- the second word has the length of the first, and rises strictly at each descent of it
abbrev rises_at_descents : List ℕ → List ℕ → Bool
rises_at_descents [] [] = true
rises_at_descents [] (x ∷ w) = false
rises_at_descents (s ∷ v) [] = false
rises_at_descents (s ∷ []) (x ∷ []) = true
rises_at_descents (s ∷ []) (x ∷ y ∷ w) = false
rises_at_descents (s ∷ t ∷ v) (x ∷ []) = false
rises_at_descents (s ∷ t ∷ v) (x ∷ y ∷ w) = (not (nat_lt t s) || nat_lt x y) && rises_at_descents (t ∷ v) (y ∷ w)

-- places of one word among those of another

places_among : (test : ℕ → ℕ → Bool) (k : ℕ) (x y : ℕ) (w : List ℕ) (a : ℕ) → suc k ≤ a
    → is_among a (places_where test k (x ∷ y ∷ w)) ≡ is_among a (places_where test (suc k) (y ∷ w))
places_among test k x y w a low = by_test (test x y)
  where
    by_test : (b : Bool) → is_among a (if b then k ∷ places_where test (suc k) (y ∷ w) else places_where test (suc k) (y ∷ w)) ≡ is_among a (places_where test (suc k) (y ∷ w))
    by_test true = ap (λ b. b || is_among a (places_where test (suc k) (y ∷ w))) (ne_eqb k a (λ e. omega (arith, e, low)))
    by_test false = refl

place_here : (test : ℕ → ℕ → Bool) (k : ℕ) (x y : ℕ) (w : List ℕ) → is_among k (places_where test k (x ∷ y ∷ w)) ≡ test x y
place_here test k x y w = by_test (test x y)
  where
    by_test : (b : Bool) → is_among k (if b then k ∷ places_where test (suc k) (y ∷ w) else places_where test (suc k) (y ∷ w)) ≡ b
    by_test true = ap (λ b. b || is_among k (places_where test (suc k) (y ∷ w))) (eq-eqb k k refl)
    by_test false = none_before test (suc k) k (y ∷ w) (omega arith)

descents_within : (k : ℕ) (v w all : List ℕ) → length v ≡ length w → ((a : ℕ) → k ≤ a → is_among a all ≡ is_among a (places_where (λ x y. nat_lt x y) k w))
    → is_subset (places_where (λ x y. nat_lt y x) k v) all ≡ rises_at_descents v w
descents_within k [] [] all e same = refl
descents_within k [] (x ∷ w) all e same = absurd (omega (arith, e))
descents_within k (s ∷ v) [] all e same = absurd (omega (arith, e))
descents_within k (s ∷ []) (x ∷ []) all e same = refl
descents_within k (s ∷ []) (x ∷ y ∷ w) all e same = absurd (omega (arith, e))
descents_within k (s ∷ t ∷ v) (x ∷ []) all e same = absurd (omega (arith, e))
descents_within k (s ∷ t ∷ v) (x ∷ y ∷ w) all e same =
    by_test (nat_lt t s) (same k (omega arith) ∙ place_here (λ x y. nat_lt x y) k x y w)
    (descents_within (suc k) (t ∷ v) (y ∷ w) all (omega (arith, e)) (λ a low. same a (omega (arith, low)) ∙ places_among (λ x y. nat_lt x y) k x y w a low))
  where
    by_test : (b : Bool) → is_among k all ≡ nat_lt x y → is_subset (places_where (λ x y. nat_lt y x) (suc k) (t ∷ v)) all ≡ rises_at_descents (t ∷ v) (y ∷ w)
        → is_subset (if b then k ∷ places_where (λ x y. nat_lt y x) (suc k) (t ∷ v) else places_where (λ x y. nat_lt y x) (suc k) (t ∷ v)) all
        ≡ ((not b || nat_lt x y) && rises_at_descents (t ∷ v) (y ∷ w))
    by_test true here rest = λ i. here i && rest i
    by_test false here rest = rest

other_length : (v w : List ℕ) → (length w ≡ length v → ⊥) → rises_at_descents v w ≡ false
other_length [] [] other = absurd (other refl)
other_length [] (x ∷ w) other = refl
other_length (s ∷ v) [] other = refl
other_length (s ∷ []) (x ∷ []) other = absurd (other refl)
other_length (s ∷ []) (x ∷ y ∷ w) other = refl
other_length (s ∷ t ∷ v) (x ∷ []) other = refl
other_length (s ∷ t ∷ v) (x ∷ y ∷ w) other =
    ap (λ b. (not (nat_lt t s) || nat_lt x y) && b) (other_length (t ∷ v) (y ∷ w) (λ e. other (ap suc e))) ∙ none (not (nat_lt t s) || nat_lt x y)
  where
    none : (b : Bool) → (b && false) ≡ false
    none true = refl
    none false = refl

-- F of C(v) occurs at exponents whose nondecreasing word has the length of v and rises strictly at the descents of v
occurs-rises : (v p : List ℕ) → occurs QsymF (descent_composition v) p ≡ rises_at_descents v (nondecreasing_word p)
occurs-rises v p =
    (λ i. nat_eq (length (nondecreasing_word p)) ((descends v).0 i) && is_subset ((descends v).1 i) (ascents (nondecreasing_word p)))
    ∙ elim (cases_eq (length (nondecreasing_word p)) (length v)) [
      | inl same ↦
          (λ i. eq-eqb (length (nondecreasing_word p)) (length v) same i && is_subset (descents v) (ascents (nondecreasing_word p)))
          ∙ descents_within 1 v (nondecreasing_word p) (ascents (nondecreasing_word p)) (sym same) (λ a low. refl)
      | inr other ↦
          ap (λ b. b && is_subset (descents v) (ascents (nondecreasing_word p))) (ne_eqb (length (nondecreasing_word p)) (length v) other)
          ∙ sym (other_length v (nondecreasing_word p) other)
    ]

-- a word fits exponents: as many of its letters as the first exponent do not fall, and the others fit the other exponents
abbrev pub fits_exponents : List ℕ → List ℕ → Bool
fits_exponents [] v = nat_eq (length v) 0
fits_exponents (n ∷ p) v = nat_le n (length v) && (is_nondecreasing (take n v) && fits_exponents p (drop n v))

-- there is no first letter, or it is above i
abbrev BeginsAbove : ℕ → List ℕ → Type 0
BeginsAbove i [] = Unit {0}
BeginsAbove i (x ∷ w) = i < x

above : (p : List ℕ) (i j : ℕ) → i < j → BeginsAbove i (nondecreasing_from j p)
above [] i j h = tt
above (zero ∷ p) i j h = above p i (suc j) (omega (arith, h))
above (suc n ∷ p) i j h = h

-- a letter before a nondecreasing word
nondecreasing-cons : (s t : ℕ) (v : List ℕ) → is_nondecreasing (s ∷ t ∷ v) ≡ (not (nat_lt t s) && is_nondecreasing (t ∷ v))
nondecreasing-cons s t v =
    same_tests (is_nondecreasing (s ∷ t ∷ v)) (not (nat_lt t s) && is_nondecreasing (t ∷ v))
    (λ e.
    let parts = and_parts (all_from s (t ∷ v)) (is_nondecreasing (t ∷ v)) e in
    and_from (not (nat_lt t s)) (is_nondecreasing (t ∷ v)) (up (and_parts (nat_le s t) (all_from s v) parts.0).0) parts.1)
    (λ e.
    let parts = and_parts (not (nat_lt t s)) (is_nondecreasing (t ∷ v)) e in
    let later = (and_parts (all_from t v) (is_nondecreasing v) parts.1).0 in
    and_from (all_from s (t ∷ v)) (is_nondecreasing (t ∷ v))
    (and_from (nat_le s t) (all_from s v) (le parts.0) (all_from_smaller s t v (order parts.0) later)) parts.1)
  where
    up : nat_le s t ≡ true → not (nat_lt t s) ≡ true
    up e = grind (arith, nat_tests, e)

    le : not (nat_lt t s) ≡ true → nat_le s t ≡ true
    le e = grind (arith, nat_tests, e)

    order : not (nat_lt t s) ≡ true → s ≤ t
    order e = grind (arith, nat_tests, e)

le_more : (n k : ℕ) → nat_le (suc n) (suc k) ≡ nat_le n k
le_more n k = grind (arith, nat_tests)

le_least : (n : ℕ) → nat_le 0 n ≡ true
le_least n = grind (arith, nat_tests)

not_more : (n : ℕ) → nat_le (suc n) 0 ≡ false
not_more n = grind (arith, nat_tests)

-- a block of n equal letters i, with greater ones after it
block : (n i : ℕ) (v y : List ℕ) → BeginsAbove i y
    → rises_at_descents v (replicate n i ++ y) ≡ (nat_le n (length v) && (is_nondecreasing (take n v) && rises_at_descents (drop n v) y))
block zero i v y h = ap (λ b. b && rises_at_descents v y) (sym (le_least (length v)))
block (suc n) i [] y h = ap (λ b. b && (true && rises_at_descents [] y)) (sym (not_more n))
block (suc zero) i (s ∷ []) [] h = ap (λ b. b && true) (sym (le_more 0 0 ∙ le_least 0))
block (suc zero) i (s ∷ []) (z ∷ y) h = sym (none (nat_le 1 1))
  where
    none : (b : Bool) → (b && false) ≡ false
    none true = refl
    none false = refl
block (suc zero) i (s ∷ t ∷ v) [] h = sym (none (nat_le 1 (suc (suc (length v)))))
  where
    none : (b : Bool) → (b && false) ≡ false
    none true = refl
    none false = refl
block (suc zero) i (s ∷ t ∷ v) (z ∷ y) h =
    let less : nat_lt i z ≡ true = grind (arith, nat_tests, h) in
    ap (λ b. (not (nat_lt t s) || b) && rises_at_descents (t ∷ v) (z ∷ y)) less
    ∙ ap (λ b. b && rises_at_descents (t ∷ v) (z ∷ y)) (or_true (not (nat_lt t s)))
    ∙ ap (λ b. b && rises_at_descents (t ∷ v) (z ∷ y)) (sym (le_more 0 (suc (length v)) ∙ le_least (suc (length v))))
  where
    or_true : (b : Bool) → (b || true) ≡ true
    or_true true = refl
    or_true false = refl
block (suc (suc n)) i (s ∷ []) y h = ap (λ b. b && (is_nondecreasing (s ∷ take (suc n) []) && rises_at_descents (drop (suc n) []) y)) (sym (le_more (suc n) 0 ∙ not_more n))
block (suc (suc n)) i (s ∷ t ∷ v) y h =
    let flat : nat_lt i i ≡ false = grind (arith, nat_tests) in
    ap (λ b. (not (nat_lt t s) || b) && rises_at_descents (t ∷ v) (i ∷ (replicate n i ++ y))) flat
    ∙ ap (λ b. (not (nat_lt t s) || false) && b) (block (suc n) i (t ∷ v) y h)
    ∙ ordered (not (nat_lt t s)) (nat_le (suc n) (suc (length v))) (is_nondecreasing (t ∷ take n v)) (rises_at_descents (drop n v) y)
    ∙ (λ k. sym (le_more (suc n) (suc (length v))) k && (sym (nondecreasing-cons s t (take n v)) k && rises_at_descents (drop n v) y))
  where
    ordered : (p q r s : Bool) → ((p || false) && (q && (r && s))) ≡ (q && ((p && r) && s))
    ordered true q r s = refl
    ordered false true r s = refl
    ordered false false r s = refl

rises-fits : (p v : List ℕ) (i : ℕ) → rises_at_descents v (nondecreasing_from i p) ≡ fits_exponents p v
rises-fits [] [] i = refl
rises-fits [] (s ∷ v) i = sym (ne_eqb (suc (length v)) 0 (λ e. absurd (omega (arith, e))))
rises-fits (n ∷ p) v i =
    block n i v (nondecreasing_from (suc i) p) (above p i (suc i) (omega arith))
    ∙ ap (λ b. nat_le n (length v) && (is_nondecreasing (take n v) && b)) (rises-fits p (drop n v) (suc i))

-- F of C(v) occurs at the exponents that v fits
pub occurs-fits : (v p : List ℕ) → occurs QsymF (descent_composition v) p ≡ fits_exponents p v
occurs-fits v p = occurs-rises v p ∙ rises-fits p v 1
