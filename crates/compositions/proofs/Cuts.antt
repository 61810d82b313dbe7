-- The quasi-shuffle counts the cuts: what it sums to at an exponent list is the sum over the cuts of that list.
use Rattle.std.proofs.Common.{◌≡◌, ℕ, zero, suc, ◌+◌, ◌*◌, ◌<◌, List, [], ◌∷◌, ◌++◌, map, refl, ◌∙◌, ap, arith, zero-add, add-zero, Bool, true, false, ◌&&◌}
use Rattle.std.specs.Prelude.{nat_eq, if◌then◌else◌}
use Rattle.std.proofs.Math.Dec.{eqb-suc-zero, eqb-zero-suc, eqb-suc-suc}
use Rattle.realisations.specs.IndexKinds.{IsComposition}
use Rattle.realisations.specs.Lists.{same_list, one_if}
use Rattle.realisations.specs.Exponents.{number_cuts, exponent_cuts, without_zeros}
use Rattle.basis_names.specs.declared.bases.BasisId.TheVariants.{QsymM}
use Rattle.realisations.specs.Occurrence.{occurs}
use Rattle.realisations.proofs.Sums.{sums, sums-append, sums-map, sums-flat_map, sums_same, sums-add, sums_none, sums_four, one_if_same, over_cuts, over_cuts_single}
use Rattle.compositions.specs.QuasiShuffles.{quasi_shuffles}

-- 1 where the monomial function of the composition occurs at the exponents, else 0
abbrev pub occurs_monomial : List ℕ → List ℕ → ℕ
occurs_monomial composition p = one_if (occurs QsymM composition p)

-- the test of two numbers as 0 or 1
pub one_if_same_is : (a i : ℕ) → (if nat_eq i a then 1 else 0) ≡ one_if_same a i
one_if_same_is zero zero = refl
one_if_same_is zero (suc i) = rw (eqb-suc-zero i)
one_if_same_is (suc a) zero = rw (eqb-zero-suc a)
one_if_same_is (suc a) (suc i) = rw (eqb-suc-suc i a) (one_if_same_is a i)

pub if_both : (p q : Bool) → (if (p && q) then 1 else 0) ≡ (if p then 1 else 0) * (if q then 1 else 0)
if_both true true = refl
if_both true false = refl
if_both false q = omega arith

-- an element with a first part at a list with a first exponent
pub occurs-cons : (a : ℕ) (j : List ℕ) (i : ℕ) (u : List ℕ) →
    occurs_monomial (suc a ∷ j) (i ∷ u) ≡ one_if_same 0 i * occurs_monomial (suc a ∷ j) u + one_if_same (suc a) i * occurs_monomial j u
occurs-cons a j zero u = omega arith
occurs-cons a j (suc i) u =
    if_both (nat_eq (suc i) (suc a)) (same_list (without_zeros u) j)
    ∙ omega (arith, ap (λ n. n * occurs_monomial j u) (one_if_same_is (suc a) (suc i)))

pub occurs_nil-cons : (i : ℕ) (u : List ℕ) → occurs_monomial [] (i ∷ u) ≡ one_if_same 0 i * occurs_monomial [] u
occurs_nil-cons zero u = omega arith
occurs_nil-cons (suc i) u = omega arith

-- what the quasi-shuffles of two compositions sum to at an exponent list
abbrev pub shuffled : List ℕ → List ℕ → List ℕ → ℕ
shuffled j k p = sums (λ w. occurs_monomial w p) (quasi_shuffles j k)

-- the sum over the cuts
abbrev pub cut_sum : List ℕ → List ℕ → List ℕ → ℕ
cut_sum j k p = sums (λ c. occurs_monomial j c.0 * occurs_monomial k c.1) (exponent_cuts p)

-- a first part before each word, at a list with a first exponent
pub sums-first : (a : ℕ) → 0 < a → (ws : List (List ℕ)) (n : ℕ) (p : List ℕ) →
    sums (λ w. occurs_monomial w (n ∷ p)) (map (λ w. a ∷ w) ws)
    ≡ one_if_same 0 n * sums (λ w. occurs_monomial w p) (map (λ w. a ∷ w) ws)
    + one_if_same a n * sums (λ w. occurs_monomial w p) ws
sums-first zero h ws n p = absurd (omega arith)
sums-first (suc a) h [] n p = omega arith
sums-first (suc a) h (w ∷ ws) n p = omega (arith, occurs-cons a w n p, sums-first (suc a) h ws n p)

pub sums-first_none : (a : ℕ) (ws : List (List ℕ)) →
    sums (λ w. occurs_monomial w []) (map (λ w. a ∷ w) ws) ≡ 0
sums-first_none a [] = refl
sums-first_none a (w ∷ ws) = omega (arith, sums-first_none a ws)

-- a sum of products over the cuts of a longer list
pub cut_sum-cons : (j k : List ℕ) (n : ℕ) (p : List ℕ) →
    cut_sum j k (n ∷ p)
    ≡ over_cuts n (λ x y. sums (λ c. occurs_monomial j (x ∷ c.0) * occurs_monomial k (y ∷ c.1)) (exponent_cuts p))
cut_sum-cons j k n p =
    sums-flat_map
    (λ c. occurs_monomial j c.0 * occurs_monomial k c.1)
    (λ e. map (λ c. (e.0 ∷ c.0, e.1 ∷ c.1)) (exponent_cuts p))
    (number_cuts n)
    ∙ sums_same _ _
    (λ e. sums-map (λ c. occurs_monomial j c.0 * occurs_monomial k c.1) (λ c. (e.0 ∷ c.0, e.1 ∷ c.1)) (exponent_cuts p))
    (number_cuts n)

-- four weighted sums over the cuts of a number
pub over_four : (n a b t u v w : ℕ) →
    over_cuts n (λ x y.
    one_if_same 0 x * (one_if_same 0 y * t) + one_if_same 0 x * (one_if_same b y * u)
    + one_if_same a x * (one_if_same 0 y * v) + one_if_same a x * (one_if_same b y * w))
    ≡ one_if_same 0 n * t + one_if_same b n * u + one_if_same a n * v + one_if_same (a + b) n * w
over_four n a b t u v w =
    let first : over_cuts n (λ x y. one_if_same 0 x * (one_if_same b y * u)) ≡ one_if_same b n * u = over_cuts_single n 0 b u ∙ ap (λ m. one_if_same m n * u) (zero-add b) in
    let second : over_cuts n (λ x y. one_if_same a x * (one_if_same 0 y * v)) ≡ one_if_same a n * v = over_cuts_single n a 0 v ∙ ap (λ m. one_if_same m n * v) (add-zero a) in
    sums-add (λ e. one_if_same 0 e.0 * (one_if_same 0 e.1 * t) + one_if_same 0 e.0 * (one_if_same b e.1 * u) + one_if_same a e.0 * (one_if_same 0 e.1 * v)) (λ e. one_if_same a e.0 * (one_if_same b e.1 * w)) (number_cuts n)
    ∙ omega (
      arith,
      sums-add (λ e. one_if_same 0 e.0 * (one_if_same 0 e.1 * t) + one_if_same 0 e.0 * (one_if_same b e.1 * u)) (λ e. one_if_same a e.0 * (one_if_same 0 e.1 * v)) (number_cuts n),
      sums-add (λ e. one_if_same 0 e.0 * (one_if_same 0 e.1 * t)) (λ e. one_if_same 0 e.0 * (one_if_same b e.1 * u)) (number_cuts n),
      over_cuts_single n 0 0 t,
      over_cuts_single n a b w,
    )

-- one step of the sum over the cuts, where each element's occurrence splits by the first exponent
pub cut_sum_step : (j k : List ℕ) (a b : ℕ) (g i : List ℕ → ℕ)
    → ((x : ℕ) (u : List ℕ) → occurs_monomial j (x ∷ u) ≡ one_if_same 0 x * occurs_monomial j u + one_if_same a x * g u)
    → ((x : ℕ) (u : List ℕ) → occurs_monomial k (x ∷ u) ≡ one_if_same 0 x * occurs_monomial k u + one_if_same b x * i u)
    → (n : ℕ) (p : List ℕ)
    → cut_sum j k (n ∷ p)
    ≡ one_if_same 0 n * cut_sum j k p
    + one_if_same b n * sums (λ c. occurs_monomial j c.0 * i c.1) (exponent_cuts p)
    + one_if_same a n * sums (λ c. g c.0 * occurs_monomial k c.1) (exponent_cuts p)
    + one_if_same (a + b) n * sums (λ c. g c.0 * i c.1) (exponent_cuts p)
cut_sum_step j k a b g i hj hk n p =
    cut_sum-cons j k n p
    ∙ sums_same _ _
    (λ e. sums_same _ _ (λ c. ap (λ m. m * occurs_monomial k (e.1 ∷ c.1)) (hj e.0 c.0) ∙ ap (λ m. (one_if_same 0 e.0 * occurs_monomial j c.0 + one_if_same a e.0 * g c.0) * m) (hk e.1 c.1)) (exponent_cuts p)
    ∙ sums_four (one_if_same 0 e.0) (one_if_same a e.0) (one_if_same 0 e.1) (one_if_same b e.1) (λ c. occurs_monomial j c.0) (λ c. g c.0) (λ c. occurs_monomial k c.1) (λ c. i c.1) (exponent_cuts p))
    (number_cuts n)
    ∙ over_four n a b _ _ _ _

-- the three parts of the quasi-shuffles
pub shuffled_parts : (a : ℕ) (j : List ℕ) (b : ℕ) (k : List ℕ) (p : List ℕ) →
    shuffled (suc a ∷ j) (suc b ∷ k) p
    ≡ sums (λ w. occurs_monomial w p) (map (λ w. suc a ∷ w) (quasi_shuffles j (suc b ∷ k)))
    + sums (λ w. occurs_monomial w p) (map (λ w. suc b ∷ w) (quasi_shuffles (suc a ∷ j) k))
    + sums (λ w. occurs_monomial w p) (map (λ w. (suc a + suc b) ∷ w) (quasi_shuffles j k))
shuffled_parts a j b k p =
    sums-append (λ w. occurs_monomial w p) (map (λ w. suc a ∷ w) (quasi_shuffles j (suc b ∷ k)) ++ map (λ w. suc b ∷ w) (quasi_shuffles (suc a ∷ j) k)) (map (λ w. (suc a + suc b) ∷ w) (quasi_shuffles j k))
    ∙ ap (λ n. n + sums (λ w. occurs_monomial w p) (map (λ w. (suc a + suc b) ∷ w) (quasi_shuffles j k)))
    (sums-append (λ w. occurs_monomial w p) (map (λ w. suc a ∷ w) (quasi_shuffles j (suc b ∷ k))) (map (λ w. suc b ∷ w) (quasi_shuffles (suc a ∷ j) k)))

pub shuffled_step : (a : ℕ) (j : List ℕ) (b : ℕ) (k : List ℕ) (n : ℕ) (p : List ℕ) →
    shuffled (suc a ∷ j) (suc b ∷ k) (n ∷ p)
    ≡ one_if_same 0 n * shuffled (suc a ∷ j) (suc b ∷ k) p
    + one_if_same (suc b) n * shuffled (suc a ∷ j) k p
    + one_if_same (suc a) n * shuffled j (suc b ∷ k) p
    + one_if_same (suc a + suc b) n * shuffled j k p
shuffled_step a j b k n p =
    let whole : shuffled (suc a ∷ j) (suc b ∷ k) (n ∷ p) ≡ _ = shuffled_parts a j b k (n ∷ p) in
    let rest : one_if_same 0 n * shuffled (suc a ∷ j) (suc b ∷ k) p ≡ _ = ap (λ m. one_if_same 0 n * m) (shuffled_parts a j b k p) in
    omega (
      arith,
      whole,
      rest,
      sums-first (suc a) (omega arith) (quasi_shuffles j (suc b ∷ k)) n p,
      sums-first (suc b) (omega arith) (quasi_shuffles (suc a ∷ j) k) n p,
      sums-first (suc a + suc b) (omega arith) (quasi_shuffles j k) n p,
    )

pub sums_nothing : {X : Type 0} (f : X → ℕ) (xs : List X) → sums (λ x. f x * 0) xs ≡ 0
sums_nothing f xs = sums_none _ (λ x. omega arith) xs

pub sums_zero : {X : Type 0} (f : X → ℕ) (xs : List X) → sums (λ x. 0 * f x) xs ≡ 0
sums_zero f xs = sums_none _ (λ x. omega arith) xs

-- the empty composition's element is the unit, on the left
pub cut_sum-nil_left : (k : List ℕ) → IsComposition k → (p : List ℕ) → cut_sum [] k p ≡ occurs_monomial k p
cut_sum-nil_left k hk [] = omega arith
cut_sum-nil_left (zero ∷ k) hk p = absurd (omega (arith, hk.0))
cut_sum-nil_left [] hk (n ∷ p) =
    let cut : cut_sum [] [] (n ∷ p) ≡ _ = cut_sum_step [] [] 1 1 (λ u. 0) (λ u. 0) (λ x u. omega (arith, occurs_nil-cons x u)) (λ x u. omega (arith, occurs_nil-cons x u)) n p in
    let n1 : one_if_same 1 n * sums (λ c. occurs_monomial [] c.0 * 0) (exponent_cuts p) ≡ one_if_same 1 n * 0 = ap (λ m. one_if_same 1 n * m) (sums_nothing (λ c. occurs_monomial [] c.0) (exponent_cuts p)) in
    let n2 : one_if_same 1 n * sums (λ c. 0 * occurs_monomial [] c.1) (exponent_cuts p) ≡ one_if_same 1 n * 0 = ap (λ m. one_if_same 1 n * m) (sums_zero (λ c. occurs_monomial [] c.1) (exponent_cuts p)) in
    let n3 : one_if_same 2 n * sums (λ c. 0 * 0) (exponent_cuts p) ≡ one_if_same 2 n * 0 = ap (λ m. one_if_same 2 n * m) (sums_zero (λ c. 0) (exponent_cuts p)) in
    omega (arith, cut, n1, n2, n3, occurs_nil-cons n p, ap (λ m. one_if_same 0 n * m) (cut_sum-nil_left [] hk p))
cut_sum-nil_left (suc b ∷ k) hk (n ∷ p) =
    let cut : cut_sum [] (suc b ∷ k) (n ∷ p) ≡ _ = cut_sum_step [] (suc b ∷ k) 1 (suc b) (λ u. 0) (occurs_monomial k) (λ x u. omega (arith, occurs_nil-cons x u)) (occurs-cons b k) n p in
    let n2 : one_if_same 1 n * sums (λ c. 0 * occurs_monomial (suc b ∷ k) c.1) (exponent_cuts p) ≡ one_if_same 1 n * 0 = ap (λ m. one_if_same 1 n * m) (sums_zero (λ c. occurs_monomial (suc b ∷ k) c.1) (exponent_cuts p)) in
    let n3 : one_if_same (1 + suc b) n * sums (λ c. 0 * occurs_monomial k c.1) (exponent_cuts p) ≡ one_if_same (1 + suc b) n * 0 = ap (λ m. one_if_same (1 + suc b) n * m) (sums_zero (λ c. occurs_monomial k c.1) (exponent_cuts p)) in
    omega (
      arith,
      cut,
      n2,
      n3,
      occurs-cons b k n p,
      ap (λ m. one_if_same 0 n * m) (cut_sum-nil_left (suc b ∷ k) hk p),
      ap (λ m. one_if_same (suc b) n * m) (cut_sum-nil_left k hk.1 p),
    )

-- and on the right
pub cut_sum-nil_right : (j : List ℕ) → IsComposition j → (p : List ℕ) → cut_sum j [] p ≡ occurs_monomial j p
cut_sum-nil_right j hj [] = omega arith
cut_sum-nil_right (zero ∷ j) hj p = absurd (omega (arith, hj.0))
cut_sum-nil_right [] hj p = cut_sum-nil_left [] hj p
cut_sum-nil_right (suc a ∷ j) hj (n ∷ p) =
    let cut : cut_sum (suc a ∷ j) [] (n ∷ p) ≡ _ = cut_sum_step (suc a ∷ j) [] (suc a) 1 (occurs_monomial j) (λ u. 0) (occurs-cons a j) (λ x u. omega (arith, occurs_nil-cons x u)) n p in
    let n1 : one_if_same 1 n * sums (λ c. occurs_monomial (suc a ∷ j) c.0 * 0) (exponent_cuts p) ≡ one_if_same 1 n * 0 = ap (λ m. one_if_same 1 n * m) (sums_nothing (λ c. occurs_monomial (suc a ∷ j) c.0) (exponent_cuts p)) in
    let n3 : one_if_same (suc a + 1) n * sums (λ c. occurs_monomial j c.0 * 0) (exponent_cuts p) ≡ one_if_same (suc a + 1) n * 0 = ap (λ m. one_if_same (suc a + 1) n * m) (sums_nothing (λ c. occurs_monomial j c.0) (exponent_cuts p)) in
    omega (
      arith,
      cut,
      n1,
      n3,
      occurs-cons a j n p,
      ap (λ m. one_if_same 0 n * m) (cut_sum-nil_right (suc a ∷ j) hj p),
      ap (λ m. one_if_same (suc a) n * m) (cut_sum-nil_right j hj.1 p),
    )

-- the theorem
pub shuffled_is : (j k : List ℕ) → IsComposition j → IsComposition k → (p : List ℕ) → shuffled j k p ≡ cut_sum j k p
shuffled_is [] k hj hk p = omega (arith, cut_sum-nil_left k hk p)
shuffled_is (zero ∷ j) k hj hk p = absurd (omega (arith, hj.0))
shuffled_is (suc a ∷ j) [] hj hk p = omega (arith, cut_sum-nil_right (suc a ∷ j) hj p)
shuffled_is j (zero ∷ k) hj hk p = absurd (omega (arith, hk.0))
shuffled_is (suc a ∷ j) (suc b ∷ k) hj hk [] =
    omega (arith, shuffled_parts a j b k [], sums-first_none (suc a) (quasi_shuffles j (suc b ∷ k)), sums-first_none (suc b) (quasi_shuffles (suc a ∷ j) k), sums-first_none (suc a + suc b) (quasi_shuffles j k))
shuffled_is (suc a ∷ j) (suc b ∷ k) hj hk (n ∷ p) =
    let cut : cut_sum (suc a ∷ j) (suc b ∷ k) (n ∷ p) ≡ _ = cut_sum_step (suc a ∷ j) (suc b ∷ k) (suc a) (suc b) (occurs_monomial j) (occurs_monomial k) (occurs-cons a j) (occurs-cons b k) n p in
    omega (
      arith,
      cut,
      shuffled_step a j b k n p,
      ap (λ m. one_if_same 0 n * m) (shuffled_is (suc a ∷ j) (suc b ∷ k) hj hk p),
      ap (λ m. one_if_same (suc b) n * m) (shuffled_is (suc a ∷ j) k hj hk.1 p),
      ap (λ m. one_if_same (suc a) n * m) (shuffled_is j (suc b ∷ k) hj.1 hk p),
      ap (λ m. one_if_same (suc a + suc b) n * m) (shuffled_is j k hj.1 hk.1 p),
    )
