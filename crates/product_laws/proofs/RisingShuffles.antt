-- Nondecreasing shuffles: two words with no letter in common have one exactly where both are nondecreasing.
use Rattle.std.proofs.Common.{◌≡◌, ℕ, ◌+◌, ◌*◌, ◌<◌, ◌≤◌, Bool, true, false, List, [], ◌∷◌, map, refl, ◌∙◌, ap, arith, inl, inr, ◌⊎◌}
use Rattle.std.specs.Prelude.{nat_le, ◌&&◌}
use Rattle.std.specs.List.{AllByRecursion, list_all}
use Rattle.std.proofs.lemmas.Bool.{cases_lt, and_from, and_parts}
use Rattle.std.proofs.lemmas.Bool.Decides.{nat_tests}
use Rattle.realisations.specs.Lists.{one_if}
use Rattle.realisations.specs.Words.{shuffles}
use Rattle.realisations.proofs.Every.{every-append, every-map}
use Rattle.realisations.proofs.RisingMaps.{Letters}
use Rattle.realisations.proofs.Sums.{sums, sums-append, sums-map, sums-scale}
use Rattle.basis_representatives.proofs.SameLists.{one_if-and}
use Rattle.product_laws.proofs.EveryShuffle.{sums_same_on}

-- each letter is at least a
abbrev pub all_from : ℕ → List ℕ → Bool
all_from a w = list_all (λ x. nat_le a x) w

-- each letter is at least each earlier one
abbrev pub is_nondecreasing : List ℕ → Bool
is_nondecreasing [] = true
is_nondecreasing (x ∷ w) = all_from x w && is_nondecreasing w

-- no letter of the first word is one of the second
abbrev pub AreApart : List ℕ → List ℕ → Type 0
AreApart u v = Letters (λ x. Letters (λ y. x ≡ y → ⊥) v) u

-- without the first letter of the second word
pub apart_later : (u : List ℕ) (y : ℕ) (v : List ℕ) → AreApart u (y ∷ v) → AreApart u v
apart_later [] y v h = tt
apart_later (x ∷ u) y v h = (h.0.1, apart_later u y v h.1)

-- a test of all letters holds of a shuffle where it holds of both words
all-shuffles : (test : ℕ → Bool) (u v : List ℕ) → AllByRecursion (λ w. list_all test w ≡ (list_all test u && list_all test v)) (shuffles u v)
all-shuffles test [] v = (refl, tt)
all-shuffles test (x ∷ u) [] = (right (list_all test (x ∷ u)), tt)
  where
    right : (b : Bool) → b ≡ (b && true)
    right true = refl
    right false = refl
all-shuffles test (x ∷ u) (y ∷ v) =
    every-append _ (map (λ w. x ∷ w) (shuffles u (y ∷ v))) (map (λ w. y ∷ w) (shuffles (x ∷ u) v))
    (every-map _ _ (λ w. x ∷ w) (λ w h. ap (λ b. test x && b) h ∙ first (test x) (list_all test u) (list_all test (y ∷ v))) (shuffles u (y ∷ v)) (all-shuffles test u (y ∷ v)))
    (every-map _ _ (λ w. y ∷ w) (λ w h. ap (λ b. test y && b) h ∙ second (test y) (list_all test (x ∷ u)) (list_all test v)) (shuffles (x ∷ u) v) (all-shuffles test (x ∷ u) v))
  where
    first : (p q r : Bool) → (p && (q && r)) ≡ ((p && q) && r)
    first true q r = refl
    first false q r = refl

    second : (p q r : Bool) → (p && (q && r)) ≡ (q && (p && r))
    second true true r = refl
    second true false r = refl
    second false true r = refl
    second false false r = refl

-- a letter in front of the shuffles
nondecreasing-first : (a : ℕ) (u v : List ℕ)
    → sums (λ w. one_if (is_nondecreasing w)) (map (λ w. a ∷ w) (shuffles u v)) ≡ one_if (all_from a u && all_from a v) * sums (λ w. one_if (is_nondecreasing w)) (shuffles u v)
nondecreasing-first a u v =
    sums-map (λ w. one_if (is_nondecreasing w)) (λ w. a ∷ w) (shuffles u v)
    ∙ sums_same_on (λ w. all_from a w ≡ (all_from a u && all_from a v)) (λ w. one_if (all_from a w && is_nondecreasing w)) (λ w. one_if (all_from a u && all_from a v) * one_if (is_nondecreasing w))
    (λ w h. ap (λ b. one_if (b && is_nondecreasing w)) h ∙ one_if-and (all_from a u && all_from a v) (is_nondecreasing w)) (shuffles u v) (all-shuffles (λ x. nat_le a x) u v)
    ∙ sums-scale (one_if (all_from a u && all_from a v)) (λ w. one_if (is_nondecreasing w)) (shuffles u v)

-- letters from b on are letters from a smaller a on
pub all_from_smaller : (a b : ℕ) (w : List ℕ) → a ≤ b → all_from b w ≡ true → all_from a w ≡ true
all_from_smaller a b [] h e = refl
all_from_smaller a b (x ∷ w) h e =
    let parts = and_parts (nat_le b x) (all_from b w) e in
    and_from (nat_le a x) (all_from a w) (less a b x h parts.0) (all_from_smaller a b w h parts.1)
  where
    less : (a b x : ℕ) → a ≤ b → nat_le b x ≡ true → nat_le a x ≡ true
    less a b x h e = grind (arith, nat_tests, h, e)

not_below : (a b : ℕ) → a < b → nat_le b a ≡ false
not_below a b h = grind (arith, nat_tests, h)

below : (a b : ℕ) → a < b → nat_le a b ≡ true
below a b h = grind (arith, nat_tests, h)

-- the first letters decide which one comes first
smaller_first : (a b : ℕ) (u v : List ℕ) → a < b
    → one_if (all_from a u && all_from a (b ∷ v)) * (one_if (is_nondecreasing u) * one_if (is_nondecreasing (b ∷ v)))
    + one_if (all_from b (a ∷ u) && all_from b v) * (one_if (is_nondecreasing (a ∷ u)) * one_if (is_nondecreasing v))
    ≡ one_if (is_nondecreasing (a ∷ u)) * one_if (is_nondecreasing (b ∷ v))
smaller_first a b u v less =
    rw (not_below a b less, below a b less) (by_test (all_from b v) refl (all_from a u) (is_nondecreasing u) (is_nondecreasing v))
  where
    by_test : (t : Bool) → all_from b v ≡ t → (p q r : Bool)
        → one_if (p && all_from a v) * (one_if q * one_if (t && r)) + 0 * (one_if (p && q) * one_if r) ≡ one_if (p && q) * one_if (t && r)
    by_test true e p q r = rw (all_from_smaller a b v (omega (arith, less)) e) (three p q r)
      where
        three : (p q r : Bool) → one_if (p && true) * (one_if q * one_if r) + 0 * (one_if (p && q) * one_if r) ≡ one_if (p && q) * one_if r
        three true q r = omega arith
        three false q r = omega arith
    by_test false e p q r = zeros (one_if (p && all_from a v)) (one_if q) (one_if (p && q)) (one_if r)
      where
        zeros : (x y z w : ℕ) → x * (y * 0) + 0 * (z * w) ≡ z * 0
        zeros x y z w = omega arith

greater_first : (a b : ℕ) (u v : List ℕ) → b < a
    → one_if (all_from a u && all_from a (b ∷ v)) * (one_if (is_nondecreasing u) * one_if (is_nondecreasing (b ∷ v)))
    + one_if (all_from b (a ∷ u) && all_from b v) * (one_if (is_nondecreasing (a ∷ u)) * one_if (is_nondecreasing v))
    ≡ one_if (is_nondecreasing (a ∷ u)) * one_if (is_nondecreasing (b ∷ v))
greater_first a b u v less =
    rw (not_below b a less, below b a less) (by_test (all_from a u) refl (all_from b v) (is_nondecreasing u) (is_nondecreasing v))
  where
    by_test : (t : Bool) → all_from a u ≡ t → (p q r : Bool)
        → one_if (t && false) * (one_if q * one_if (p && r)) + one_if (all_from b u && p) * (one_if (t && q) * one_if r) ≡ one_if (t && q) * one_if (p && r)
    by_test true e p q r = rw (all_from_smaller b a u (omega (arith, less)) e) (three p q r)
      where
        three : (p q r : Bool) → 0 * (one_if q * one_if (p && r)) + one_if p * (one_if q * one_if r) ≡ one_if q * one_if (p && r)
        three true q r = omega arith
        three false q r = omega arith
    by_test false e p q r = zeros (one_if q * one_if (p && r)) (one_if (all_from b u && p)) (one_if r) (one_if (p && r))
      where
        zeros : (x y z w : ℕ) → 0 * x + y * (0 * z) ≡ 0 * w
        zeros x y z w = omega arith

-- one shuffle is nondecreasing where both words are, and else none
pub nondecreasing_shuffles : (u v : List ℕ) → AreApart u v → sums (λ w. one_if (is_nondecreasing w)) (shuffles u v) ≡ one_if (is_nondecreasing u) * one_if (is_nondecreasing v)
nondecreasing_shuffles [] v h = omega arith
nondecreasing_shuffles (a ∷ u) [] h = omega arith
nondecreasing_shuffles (a ∷ u) (b ∷ v) h =
    sums-append (λ w. one_if (is_nondecreasing w)) (map (λ w. a ∷ w) (shuffles u (b ∷ v))) (map (λ w. b ∷ w) (shuffles (a ∷ u) v))
    ∙ (λ i. nondecreasing-first a u (b ∷ v) i + nondecreasing-first b (a ∷ u) v i)
    ∙ (λ i. one_if (all_from a u && all_from a (b ∷ v)) * nondecreasing_shuffles u (b ∷ v) h.1 i
    + one_if (all_from b (a ∷ u) && all_from b v) * nondecreasing_shuffles (a ∷ u) v (apart_later (a ∷ u) b v h) i)
    ∙ by_order (cases_lt a b)
  where
    by_order : (a < b) ⊎ (b ≤ a)
        → one_if (all_from a u && all_from a (b ∷ v)) * (one_if (is_nondecreasing u) * one_if (is_nondecreasing (b ∷ v)))
        + one_if (all_from b (a ∷ u) && all_from b v) * (one_if (is_nondecreasing (a ∷ u)) * one_if (is_nondecreasing v))
        ≡ one_if (is_nondecreasing (a ∷ u)) * one_if (is_nondecreasing (b ∷ v))
    by_order (inl less) = smaller_first a b u v less
    by_order (inr over) = elim (cases_lt b a) [
      | inl more ↦ greater_first a b u v more
      | inr under ↦ absurd (h.0.0 (omega (arith, over, under)))
    ]
