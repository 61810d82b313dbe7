-- Each composition of n is listed once among the compositions of n.
use Rattle.std.proofs.Common.{◌≡◌, ℕ, zero, suc, ◌+◌, ◌*◌, Bool, true, false, List, [], ◌∷◌, refl, sym, ◌∙◌, ap, arith}
use Rattle.std.specs.Prelude.{nat_eq}
use Rattle.std.specs.List.{AllByRecursion, sum}
use Rattle.std.proofs.lemmas.Bool.Decides.{nat_tests}
use Rattle.realisations.specs.Lists.{same_list, one_if}
use Rattle.realisations.specs.IndexKinds.{IsComposition}
use Rattle.realisations.specs.Pairings.{longer_compositions, compositions}
use Rattle.realisations.proofs.Every.{every-flat_map}
use Rattle.realisations.proofs.Sums.{sums, sums-flat_map, sums_none, sums_same}
use Rattle.basis_representatives.proofs.SameLists.{same_list-true}
use Rattle.coproduct_rules.proofs.DoubleSums.{sums-scale_right}
use Rattle.coproduct_rules.proofs.DegreeCuts.{sum-first}

-- sums over lists whose elements have a property
pub sums_on : {X : Type 0} (P : X → Type 0) (f g : X → ℕ) (xs : List X) → AllByRecursion P xs → ((x : X) → P x → f x ≡ g x) → sums f xs ≡ sums g xs
sums_on P f g [] h same = refl
sums_on P f g (x ∷ xs) h same = omega (arith, same x h.0, sums_on P f g xs h.1 same)

-- the compositions of n are compositions
pub all_compositions : (n : ℕ) → AllByRecursion IsComposition (compositions n)
all_compositions zero = (tt, tt)
all_compositions (suc n) = every-flat_map IsComposition IsComposition (λ parts. longer_compositions parts) longer (compositions n) (all_compositions n)
  where
    longer : (parts : List ℕ) → IsComposition parts → AllByRecursion IsComposition (longer_compositions parts)
    longer [] h = ((omega arith, tt), tt)
    longer (i ∷ parts) h = ((omega arith, h), ((omega arith, h.1), tt))

-- a composition with 1 less: without a first part 1, or with the first part one smaller
shorter : ℕ → List ℕ → List ℕ
shorter zero parts = parts
shorter (suc i) parts = suc i ∷ parts

-- a composition comes from the one with 1 less alone
longer_count : (i : ℕ) (parts coarse : List ℕ) → IsComposition coarse → sums (λ k. one_if (same_list (suc i ∷ parts) k)) (longer_compositions coarse) ≡ one_if (same_list (shorter i parts) coarse)
unfolding shorter
longer_count zero [] [] h = refl
longer_count zero (j ∷ parts) [] h = refl
longer_count (suc i) parts [] h = let apart : nat_eq (suc (suc i)) 1 ≡ false = grind (arith, nat_tests) in rw apart refl
longer_count zero parts (p ∷ ps) h =
    let apart : nat_eq 1 (suc p) ≡ false = grind (arith, nat_tests, h.0) in
    rw apart (omega arith)
longer_count (suc i) parts (p ∷ ps) h =
    let apart : nat_eq (suc (suc i)) 1 ≡ false = grind (arith, nat_tests) in
    let same : nat_eq (suc (suc i)) (suc p) ≡ nat_eq (suc i) p = grind (arith, nat_tests) in
    rw (apart, same) (omega arith)

-- a composition is listed once among the compositions of its sum, and never among others
listed_once : (n : ℕ) (parts : List ℕ) → IsComposition parts → sums (λ k. one_if (same_list parts k)) (compositions n) ≡ one_if (nat_eq (sum parts) n)
unfolding shorter
listed_once zero [] h = refl
listed_once zero (i ∷ parts) h = let apart : nat_eq (sum (i ∷ parts)) 0 ≡ false = differ (sum-first i parts) in rw apart refl
  where
    differ : sum (i ∷ parts) ≡ i + sum parts → nat_eq (sum (i ∷ parts)) 0 ≡ false
    differ e = grind (arith, nat_tests, h.0)
listed_once (suc n) [] h =
    sums-flat_map (λ k. one_if (same_list [] k)) (λ parts. longer_compositions parts) (compositions n)
    ∙ sums_none (λ parts. sums (λ k. one_if (same_list [] k)) (longer_compositions parts)) none (compositions n)
    ∙ (let apart : nat_eq 0 (suc n) ≡ false = grind (arith, nat_tests) in rw apart refl)
  where
    none : (parts : List ℕ) → sums (λ k. one_if (same_list [] k)) (longer_compositions parts) ≡ 0
    none [] = refl
    none (i ∷ parts) = refl
listed_once (suc n) (zero ∷ parts) h = absurd (omega (arith, h.0))
listed_once (suc n) (suc i ∷ parts) h =
    sums-flat_map (λ k. one_if (same_list (suc i ∷ parts) k)) (λ parts. longer_compositions parts) (compositions n)
    ∙ sums_on IsComposition _ (λ k. one_if (same_list (shorter i parts) k)) (compositions n) (all_compositions n) (λ k hk. longer_count i parts k hk)
    ∙ shorter_once i h.1 (λ c hc. listed_once n c hc)
  where
    degree : (m k : ℕ) → k ≡ suc m → nat_eq m n ≡ nat_eq k (suc n)
    degree m k e = grind (arith, nat_tests)

    shorter_once : (i : ℕ) → IsComposition parts → ((c : List ℕ) → IsComposition c → sums (λ k. one_if (same_list c k)) (compositions n) ≡ one_if (nat_eq (sum c) n))
        → sums (λ k. one_if (same_list (shorter i parts) k)) (compositions n) ≡ one_if (nat_eq (sum (suc i ∷ parts)) (suc n))
    shorter_once zero hp ih = ih parts hp ∙ ap one_if (degree (sum parts) (sum (1 ∷ parts)) (omega (arith, sum-first 1 parts)))
    shorter_once (suc i) hp ih =
        ih (suc i ∷ parts) (omega arith, hp) ∙ ap one_if (degree (sum (suc i ∷ parts)) (sum (suc (suc i) ∷ parts)) (omega (arith, sum-first (suc i) parts, sum-first (suc (suc i)) parts)))

-- only the composition itself counts
pub sums_selected : (n : ℕ) (c : List ℕ) (f : List ℕ → ℕ) → IsComposition c → sums (λ k. one_if (same_list c k) * f k) (compositions n) ≡ one_if (nat_eq (sum c) n) * f c
sums_selected n c f h =
    sums_same (λ k. one_if (same_list c k) * f k) (λ k. one_if (same_list c k) * f c) (λ k. at k (same_list c k) refl) (compositions n)
    ∙ sums-scale_right (f c) (λ k. one_if (same_list c k)) (compositions n)
    ∙ ap (λ m. m * f c) (listed_once n c h)
  where
    at : (k : List ℕ) (b : Bool) → same_list c k ≡ b → one_if b * f k ≡ one_if b * f c
    at k true e = ap (λ w. 1 * f w) (sym (same_list-true c k e))
    at k false e = omega arith
