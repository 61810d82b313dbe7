-- A sum over a list in which a code stands once, of a function that counts at that code alone. Each composition stands once in the list of all compositions of sizes up to n.
use Rattle.std.proofs.Common.{◌≡◌, ℕ, zero, suc, ◌+◌, ◌*◌, ◌≤◌, Bool, true, false, List, [], ◌∷◌, refl, sym, ◌∙◌, ap, arith}
use Rattle.std.specs.Prelude.{nat_eq, nat_le}
use Rattle.std.proofs.Math.IntN.{ℤ, pos, ◌*ℤ◌, zero-*ℤ}
use Rattle.std.specs.List.{AllByRecursion, sum}
use Rattle.std.proofs.lemmas.Int.{ints}
use Rattle.std.proofs.lemmas.Bool.Decides.{nat_tests}
use Rattle.hopf_num.proofs.Ring.{+ℤ-*ℤ}
use Rattle.realisations.specs.Lists.{same_list, one_if}
use Rattle.realisations.specs.IndexKinds.{IsComposition}
use Rattle.realisations.specs.Pairings.{compositions, up_to}
use Rattle.realisations.proofs.Every.{every-weaker, every-append}
use Rattle.realisations.proofs.Sums.{sums, sums-append, sums_same}
use Rattle.basis_representatives.proofs.SameLists.{same_list-true}
use Rattle.coproduct_rules.proofs.CompositionSums.{sums_selected}
use Rattle.antipode_laws.proofs.IntegerSums.{sum_over}
use Rattle.pairing_laws.proofs.CompositionsOfSize.{IsCompositionOf, compositions_of_size}
use Rattle.pairing_laws.proofs.IntegerProducts.{one_times}

-- 1 where the codes are the same, and else 0
abbrev pub same : List ℕ → List ℕ → ℤ
same i j = pos (one_if (same_list i j))

-- how often a code stands in a list
abbrev pub times_among : List ℕ → List (List ℕ) → ℕ
times_among i codes = sums (λ k. one_if (same_list i k)) codes

-- the sum of what counts at one code alone
pub selected : (i : List ℕ) (f : List ℕ → ℤ) (codes : List (List ℕ)) → sum_over (λ k. same i k *ℤ f k) codes ≡ pos (times_among i codes) *ℤ f i
selected i f [] = sym (zero-*ℤ (f i))
selected i f (k ∷ codes) =
    omega (arith, ints, at_first (same_list i k) refl, selected i f codes, +ℤ-*ℤ (same i k) (pos (times_among i codes)) (f i))
  where
    at_first : (b : Bool) → same_list i k ≡ b → pos (one_if b) *ℤ f k ≡ pos (one_if b) *ℤ f i
    at_first true e = ap (λ j. pos 1 *ℤ f j) (sym (same_list-true i k e))
    at_first false e = zero-*ℤ (f k) ∙ sym (zero-*ℤ (f i))

-- a code that stands once in the list of its size, and in no other, stands once in the list of all sizes up to n
pub once_up_to : (family : ℕ → List (List ℕ)) (i : List ℕ) (size : ℕ) → ((k : ℕ) → times_among i (family k) ≡ one_if (nat_eq size k)) →
    (n : ℕ) → times_among i (up_to family n) ≡ one_if (nat_le size n)
once_up_to family i size once zero = once 0 ∙ ap one_if (at_zero size)
  where
    at_zero : (m : ℕ) → nat_eq m 0 ≡ nat_le m 0
    at_zero m = grind (arith, nat_tests)
once_up_to family i size once (suc n) =
    sums-append (λ k. one_if (same_list i k)) (up_to family n) (family (suc n))
    ∙ (λ x. once_up_to family i size once n x + once (suc n) x)
    ∙ one_more (nat_le size n) (nat_eq size (suc n)) (nat_le size (suc n)) refl refl refl
  where
    one_more : (a b c : Bool) → nat_le size n ≡ a → nat_eq size (suc n) ≡ b → nat_le size (suc n) ≡ c → one_if a + one_if b ≡ one_if c
    one_more true true c ea eb ec = absurd (grind (arith, nat_tests, ea, eb))
    one_more true false true ea eb ec = refl
    one_more true false false ea eb ec = absurd (grind (arith, nat_tests, ea, ec))
    one_more false true true ea eb ec = refl
    one_more false true false ea eb ec = absurd (grind (arith, nat_tests, eb, ec))
    one_more false false true ea eb ec = absurd (grind (arith, nat_tests, ea, eb, ec))
    one_more false false false ea eb ec = refl

-- the sum over all sizes up to n of what counts at such a code alone, of a size up to n
pub only_one : (family : ℕ → List (List ℕ)) (i : List ℕ) (size : ℕ) → ((k : ℕ) → times_among i (family k) ≡ one_if (nat_eq size k)) →
    (n : ℕ) → size ≤ n → (f : List ℕ → ℤ) → sum_over (λ k. same i k *ℤ f k) (up_to family n) ≡ f i
only_one family i size once n le f =
    let there : nat_le size n ≡ true = grind (arith, nat_tests) in
    selected i f (up_to family n) ∙ ap (λ m. pos m *ℤ f i) (once_up_to family i size once n ∙ ap one_if there) ∙ one_times (f i)

-- the compositions of numbers up to n
pub record IsCompositionUpTo (n : ℕ) (j : List ℕ) : Type 0 where
  pub composition : IsComposition j
  pub size : sum j ≤ n

pub compositions_up_to_size : (n : ℕ) → AllByRecursion (IsCompositionUpTo n) (up_to compositions n)
compositions_up_to_size zero = (record { composition = tt; size = omega arith }, tt)
compositions_up_to_size (suc n) =
    every-append (IsCompositionUpTo (suc n)) (up_to compositions n) (compositions (suc n))
    (every-weaker (IsCompositionUpTo n) (IsCompositionUpTo (suc n)) (λ j is. record { composition = is.composition; size = omega (arith, is.size) }) (up_to compositions n) (compositions_up_to_size n))
    (every-weaker (IsCompositionOf (suc n)) (IsCompositionUpTo (suc n)) (λ j is. record { composition = is.composition; size = omega (arith, is.size) }) (compositions (suc n)) (compositions_of_size (suc n)))

-- a composition stands once among those of its sum, and in no other list
composition_once : (i : List ℕ) → IsComposition i → (k : ℕ) → times_among i (compositions k) ≡ one_if (nat_eq (sum i) k)
composition_once i h k =
    sums_same (λ c. one_if (same_list i c)) (λ c. one_if (same_list i c) * 1) (λ c. omega arith) (compositions k)
    ∙ sums_selected k i (λ c. 1) h ∙ omega arith

-- a sum over all compositions of which only one counts
pub only_composition : (n : ℕ) (i : List ℕ) → IsCompositionUpTo n i → (f : List ℕ → ℤ) → sum_over (λ j. same i j *ℤ f j) (up_to compositions n) ≡ f i
only_composition n i is f = only_one compositions i (sum i) (composition_once i is.composition) n is.size f
