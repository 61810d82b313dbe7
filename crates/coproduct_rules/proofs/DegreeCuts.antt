-- The proper partial sums of a composition that is cut by degree.
use Rattle.std.proofs.Common.{◌≡◌, ℕ, ◌+◌, ◌-◌, ◌<◌, ◌≤◌, Bool, true, false, List, [], ◌∷◌, refl, ◌∙◌, ap, arith, inl, inr, ◌⊎◌}
use Rattle.std.specs.Prelude.{nat_eq, nat_le, ◌&&◌, min}
use Rattle.std.specs.List.{list_all, sum}
use Rattle.std.proofs.lemmas.Bool.{eqb-true, cases_lt}
use Rattle.std.proofs.lemmas.Bool.Decides.{nat_tests}
use Rattle.std.proofs.lemmas.List.Sums.{sum_by-cons}
use Rattle.realisations.specs.Descents.{partial_sums}
use Rattle.realisations.specs.IndexKinds.{IsComposition}
use Rattle.coproduct_rules.specs.DegreeCuts.{front_of_degree, rest_past_degree}

-- the sum with a first part
pub sum-first : (i : ℕ) (parts : List ℕ) → sum (i ∷ parts) ≡ i + sum parts
sum-first i parts = sum_by-cons (λ (k : ℕ). k) i parts

-- a first part within the degree, one that is cut, and one before the degree begins
pub front_whole : (k i : ℕ) (parts : List ℕ) → nat_le i k ≡ true → front_of_degree k (i ∷ parts) ≡ i ∷ front_of_degree (k - i) parts
front_whole k i parts e = rw e

-- the front ends within the first part
pub front_cut : (k i : ℕ) (parts : List ℕ) → nat_le i k ≡ false → nat_eq k 0 ≡ false → front_of_degree k (i ∷ parts) ≡ k ∷ []
front_cut k i parts e d = rw (e, d)

-- the front is empty
pub front_none : (k i : ℕ) (parts : List ℕ) → nat_le i k ≡ false → nat_eq k 0 ≡ true → front_of_degree k (i ∷ parts) ≡ []
front_none k i parts e d = rw (e, d)

-- the rest begins past the first part
pub rest_whole : (k i : ℕ) (parts : List ℕ) → nat_le i k ≡ true → rest_past_degree k (i ∷ parts) ≡ rest_past_degree (k - i) parts
rest_whole k i parts e = rw e

-- the rest begins within the first part
pub rest_cut : (k i : ℕ) (parts : List ℕ) → nat_le i k ≡ false → rest_past_degree k (i ∷ parts) ≡ (i - k) ∷ parts
rest_cut k i parts e = rw e

-- the degrees of both
pub sum-front : (k : ℕ) (parts : List ℕ) → sum (front_of_degree k parts) ≡ min k (sum parts)
sum-front k [] = omega arith
sum-front k (i ∷ parts) = by_tests (nat_le i k) refl (nat_eq k 0) refl (sum-front (k - i) parts)
  where
    by_tests : (a : Bool) → nat_le i k ≡ a → (b : Bool) → nat_eq k 0 ≡ b → sum (front_of_degree (k - i) parts) ≡ min (k - i) (sum parts)
        → sum (front_of_degree k (i ∷ parts)) ≡ min k (sum (i ∷ parts))
    by_tests true p b q ih =
        let le : i ≤ k = grind (arith, nat_tests) in
        ap sum (front_whole k i parts p) ∙ omega (arith, sum-first i (front_of_degree (k - i) parts), sum-first i parts, ih)
    by_tests false p true q ih =
        let none : k ≡ 0 = eqb-true k 0 q in
        ap sum (front_none k i parts p q) ∙ omega (arith, none)
    by_tests false p false q ih =
        let lt : k < i = grind (arith, nat_tests) in
        ap sum (front_cut k i parts p q) ∙ omega (arith, sum-first k [], sum-first i parts)

-- the rest has what is left of the degree
pub sum-rest : (k : ℕ) (parts : List ℕ) → sum (rest_past_degree k parts) ≡ sum parts - k
sum-rest k [] = omega arith
sum-rest k (i ∷ parts) = by_test (nat_le i k) refl (sum-rest (k - i) parts)
  where
    by_test : (a : Bool) → nat_le i k ≡ a → sum (rest_past_degree (k - i) parts) ≡ sum parts - (k - i)
        → sum (rest_past_degree k (i ∷ parts)) ≡ sum (i ∷ parts) - k
    by_test true p ih =
        let le : i ≤ k = grind (arith, nat_tests) in
        ap sum (rest_whole k i parts p) ∙ omega (arith, sum-first i parts, ih)
    by_test false p ih =
        let lt : k < i = grind (arith, nat_tests) in
        ap sum (rest_cut k i parts p) ∙ omega (arith, sum-first (i - k) parts, sum-first i parts)

-- both are compositions
pub front-composition : (k : ℕ) (parts : List ℕ) → IsComposition parts → IsComposition (front_of_degree k parts)
front-composition k [] h = tt
front-composition k (i ∷ parts) h = by_tests (nat_le i k) refl (nat_eq k 0) refl (front-composition (k - i) parts h.1)
  where
    by_tests : (a : Bool) → nat_le i k ≡ a → (b : Bool) → nat_eq k 0 ≡ b → IsComposition (front_of_degree (k - i) parts) → IsComposition (front_of_degree k (i ∷ parts))
    by_tests true p b q ih = rw (front_whole k i parts p) (h.0, ih)
    by_tests false p true q ih = rw (front_none k i parts p q) tt
    by_tests false p false q ih = let some : 0 < k = grind (arith, nat_tests) in rw (front_cut k i parts p q) (some, tt)

-- the rest is a composition
pub rest-composition : (k : ℕ) (parts : List ℕ) → IsComposition parts → IsComposition (rest_past_degree k parts)
rest-composition k [] h = tt
rest-composition k (i ∷ parts) h = by_test (nat_le i k) refl (rest-composition (k - i) parts h.1)
  where
    by_test : (a : Bool) → nat_le i k ≡ a → IsComposition (rest_past_degree (k - i) parts) → IsComposition (rest_past_degree k (i ∷ parts))
    by_test true p ih = rw (rest_whole k i parts p) ih
    by_test false p ih = let some : 0 < i - k = grind (arith, nat_tests) in rw (rest_cut k i parts p) (some, h.1)

-- tests of the partial sums depend on the numbers strictly between the ends alone
pub partial_sums_same : (f g : ℕ → Bool) (s : ℕ) (parts : List ℕ) → IsComposition parts → ((e : ℕ) → s < e → e < s + sum parts → f e ≡ g e)
    → list_all f (partial_sums s parts) ≡ list_all g (partial_sums s parts)
partial_sums_same f g s [] h same = refl
partial_sums_same f g s (i ∷ []) h same = refl
partial_sums_same f g s (i ∷ j ∷ parts) h same =
    let total : sum (i ∷ j ∷ parts) ≡ i + (j + sum parts) = sum-first i (j ∷ parts) ∙ ap (λ n. i + n) (sum-first j parts) in
    let here = same (s + i) (omega (arith, h.0)) (omega (arith, total, h.1.0)) in
    let rest = partial_sums_same f g (s + i) (j ∷ parts) h.1 (λ e a b. same e (omega arith) (omega (arith, total, sum-first j parts))) in
    λ n. here n && rest n

-- partial sums after a larger sum
pub partial_sums_shift : (f : ℕ → Bool) (k s : ℕ) (parts : List ℕ) → list_all f (partial_sums (k + s) parts) ≡ list_all (λ e. f (k + e)) (partial_sums s parts)
partial_sums_shift f k s [] = refl
partial_sums_shift f k s (i ∷ []) = refl
partial_sums_shift f k s (i ∷ j ∷ parts) =
    let e : k + s + i ≡ k + (s + i) = omega arith in
    rw (e, partial_sums_shift f k (s + i) (j ∷ parts))

-- a test that holds at the cut, if the cut is no end, holds at all partial sums where it does at those of both compositions
pub partial_sums_cut : (f : ℕ → Bool) (s k : ℕ) (parts : List ℕ) → IsComposition parts → (0 < k → k < sum parts → f (s + k) ≡ true)
    → list_all f (partial_sums s parts) ≡ (list_all f (partial_sums s (front_of_degree k parts)) && list_all f (partial_sums (s + k) (rest_past_degree k parts)))
partial_sums_cut f s k [] h at = refl
partial_sums_cut f s k (i ∷ []) h at = by_tests (nat_le i k) refl (nat_eq k 0) refl
  where
    by_tests : (a : Bool) → nat_le i k ≡ a → (b : Bool) → nat_eq k 0 ≡ b
        → true ≡ (list_all f (partial_sums s (front_of_degree k (i ∷ []))) && list_all f (partial_sums (s + k) (rest_past_degree k (i ∷ []))))
    by_tests true p b q = rw (front_whole k i [] p, rest_whole k i [] p) refl
    by_tests false p true q = rw (front_none k i [] p q, rest_cut k i [] p) refl
    by_tests false p false q = rw (front_cut k i [] p q, rest_cut k i [] p) refl
partial_sums_cut f s k (i ∷ j ∷ parts) h at =
    by_tests (nat_le i k) refl (nat_eq k 0) refl (cases_lt i k) (λ le lt. partial_sums_cut f (s + i) (k - i) (j ∷ parts) h.1 (λ a b. ap f (sum_is le) ∙ at (omega (arith, h.0)) (omega (arith, total, sum-first j parts))))
  where
    total : sum (i ∷ j ∷ parts) ≡ i + (j + sum parts)
    total = sum-first i (j ∷ parts) ∙ ap (λ n. i + n) (sum-first j parts)

    sum_is : i ≤ k → s + i + (k - i) ≡ s + k
    sum_is le = omega arith

    -- a front of a nonempty composition at a positive degree has a first part
    on_ordinal_sum : (l : ℕ) → 0 < l → list_all f (partial_sums s (i ∷ front_of_degree l (j ∷ parts))) ≡ (f (s + i) && list_all f (partial_sums (s + i) (front_of_degree l (j ∷ parts))))
    on_ordinal_sum l some = by_test (nat_le j l) refl (nat_eq l 0) refl
      where
        by_test : (a : Bool) → nat_le j l ≡ a → (b : Bool) → nat_eq l 0 ≡ b
            → list_all f (partial_sums s (i ∷ front_of_degree l (j ∷ parts))) ≡ (f (s + i) && list_all f (partial_sums (s + i) (front_of_degree l (j ∷ parts))))
        by_test true p b q = rw (front_whole l j parts p) refl
        by_test false p true q = absurd (omega (arith, eqb-true l 0 q))
        by_test false p false q = rw (front_cut l j parts p q) refl

    regroup : (a b c d : Bool) → b ≡ (c && d) → (a && b) ≡ ((a && c) && d)
    regroup true b c d e = e
    regroup false b c d e = refl

    by_tests : (a : Bool) → nat_le i k ≡ a → (b : Bool) → nat_eq k 0 ≡ b → (i < k) ⊎ (k ≤ i)
        → (i ≤ k → i < k → list_all f (partial_sums (s + i) (j ∷ parts)) ≡ (list_all f (partial_sums (s + i) (front_of_degree (k - i) (j ∷ parts))) && list_all f (partial_sums (s + i + (k - i)) (rest_past_degree (k - i) (j ∷ parts)))))
        → (f (s + i) && list_all f (partial_sums (s + i) (j ∷ parts)))
        ≡ (list_all f (partial_sums s (front_of_degree k (i ∷ j ∷ parts))) && list_all f (partial_sums (s + k) (rest_past_degree k (i ∷ j ∷ parts))))
    by_tests true p b q (inl lt) ih =
        let le : i ≤ k = omega arith in
        rw (front_whole k i (j ∷ parts) p, rest_whole k i (j ∷ parts) p, on_ordinal_sum (k - i) (omega arith), ← sum_is le)
        (regroup (f (s + i)) _ _ _ (ih le lt))
    by_tests true p b q (inr ge) ih =
        let same : k ≡ i = grind (arith, nat_tests) in
        let none : k - i ≡ 0 = omega arith in
        let apart : nat_le j 0 ≡ false = grind (arith, nat_tests, h.1.0) in
        let front_is : front_of_degree k (i ∷ j ∷ parts) ≡ i ∷ [] = front_whole k i (j ∷ parts) p ∙ ap (λ n. i ∷ front_of_degree n (j ∷ parts)) none ∙ ap (λ w. i ∷ w) (front_none 0 j parts apart refl) in
        let j_is : j - 0 ≡ j = omega arith in
        let rest_is : rest_past_degree k (i ∷ j ∷ parts) ≡ j ∷ parts = rest_whole k i (j ∷ parts) p ∙ ap (λ n. rest_past_degree n (j ∷ parts)) none ∙ rest_cut 0 j parts apart ∙ ap (λ n. n ∷ parts) j_is in
        let holds : f (s + k) ≡ true = at (omega (arith, h.0)) (omega (arith, total, h.1.0)) in
        rw (front_is, rest_is, ← same, holds) refl
    by_tests false p true q c ih =
        let none : k ≡ 0 = eqb-true k 0 q in
        let i_is : i - k ≡ i = omega arith in
        let s_is : s + k ≡ s = omega arith in
        rw (front_none k i (j ∷ parts) p q, rest_cut k i (j ∷ parts) p, i_is, s_is) refl
    by_tests false p false q c ih =
        let lt : k < i = grind (arith, nat_tests) in
        let i_is : s + k + (i - k) ≡ s + i = omega arith in
        rw (front_cut k i (j ∷ parts) p q, rest_cut k i (j ∷ parts) p, i_is) refl
