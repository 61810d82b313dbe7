-- Sums with signs over the compositions of n that pass a test, as sums over all compositions of n.
use Rattle.std.proofs.Common.{◌≡◌, ℕ, zero, suc, ◌^◌, ◌≤◌, Bool, true, false, List, [], ◌∷◌, length, refl, sym, ◌∙◌, ap, subst, arith}
use Rattle.std.specs.Prelude.{IsTrue}
use Rattle.std.specs.List.{All, sum}
use Rattle.std.proofs.Math.IntN.{ℤ, pos, ◌*ℤ◌, *ℤ-zero, *ℤ-one, one, zero-*ℤ}
use Rattle.std.proofs.lemmas.Bool.{true≢false}
use Rattle.std.proofs.lemmas.Int.{ints}
use Rattle.std.proofs.lemmas.List.Elements.{All-nil, All-cons, All-map, All-weaker}
use Rattle.realisations.specs.Codes.{Code, Key}
use Rattle.realisations.specs.Combinations.{weighed}
use Rattle.realisations.specs.IndexKinds.{IsComposition}
use Rattle.realisations.specs.Lists.{one_if, with_sign}
use Rattle.realisations.proofs.Sums.{sums}
use Rattle.basis_representatives.proofs.Bits.{composition_of}
use Rattle.basis_representatives.proofs.DescentBits.{IsComposition-composition_of, sum-composition_of}
use Rattle.linear_combos.specs.CodeLists.{ListsEach}
use Rattle.change_laws.specs.Changes.{signed_terms}
use Rattle.change_laws.proofs.BitMatrices.{all_bits, length-all_bits}
use Rattle.change_laws.proofs.CompositionsByBits.{every_composition, every_composition_once, few_compositions}
use Rattle.change_laws.proofs.IntSums.{sum_over, sum_over-map, sum_over_same}
use Rattle.change_laws.proofs.ListedSums.{times, same_sums, listed_once, not_listed, each_listed}
use Rattle.change_laws.proofs.SignedEntries.{sign_if}

-- a composition of n
pub record IsCompositionOf (n : ℕ) (parts : Code) : Type 0 where
  pub positive : IsComposition parts
  pub size : sum parts ≡ n

-- each of the compositions of n is one
pub each_composition : (n : ℕ) → All (IsCompositionOf n) (every_composition n)
each_composition zero = All-cons (IsCompositionOf 0) [] [] (record { positive = tt; size = refl }) (All-nil (IsCompositionOf 0))
each_composition (suc n) =
    All-map (IsCompositionOf (suc n)) composition_of (all_bits n)
    (All-weaker (λ (bits : List Bool). length bits ≡ n) (λ bits. IsCompositionOf (suc n) (composition_of bits))
    (λ bits e. record { positive = IsComposition-composition_of bits; size = sum-composition_of bits ∙ ap suc e }) (all_bits n) (length-all_bits n))

-- a sum of ones counts
ones : {X : Type 0} (xs : List X) → sum_over (λ x. pos 1) xs ≡ pos (length xs)
ones [] = refl
ones (x ∷ xs) = omega (arith, ints, ones xs)

ones_where : {X : Type 0} (test : X → Bool) (xs : List X) → sum_over (λ x. pos (one_if (test x))) xs ≡ pos (sums (λ x. one_if (test x)) xs)
ones_where test [] = refl
ones_where test (x ∷ xs) = omega (arith, ints, ones_where test xs)

one_if-small : (t : Bool) → one_if t ≤ 1
one_if-small true = omega arith
one_if-small false = omega arith

few_pass : {X : Type 0} (test : X → Bool) (xs : List X) → sums (λ x. one_if (test x)) xs ≤ length xs
few_pass test [] = omega arith
few_pass test (x ∷ xs) = omega (arith, one_if-small (test x), few_pass test xs)

pos_same : (m n : ℕ) → pos m ≡ pos n → m ≡ n
pos_same m n e = omega (arith, ints, e)

module _ (n : ℕ) (test : Code → Bool) (size : (code : Code) → IsComposition code → IsTrue (test code) → sum code ≡ n) (codes : List Code)
    (lists : ListsEach (λ code. IsComposition code × IsTrue (test code)) codes) where
  abbrev P : Code → Type 0
  P code = IsComposition code × IsTrue (test code)

  all_pass : All P codes
  all_pass = each_listed P codes lists

  -- each code of the list stands once among all compositions
  once_there : All (λ x. times x (every_composition n) ≡ 1) codes
  once_there =
      All-weaker P (λ x. times x (every_composition n) ≡ 1)
      (λ x p. subst (λ m. times x (every_composition m) ≡ 1) (size x p.0 p.1) (every_composition_once x p.0)) codes all_pass

  -- a function that is 0 at compositions that do not pass has the same sum over all compositions
  pub sum_over_passing : (f : Code → ℤ) → ((code : Code) → test code ≡ false → f code ≡ pos 0) → sum_over f codes ≡ sum_over f (every_composition n)
  unfolding one
  sum_over_passing f none =
      same_sums f codes (every_composition n) once_there
      (All-weaker (IsCompositionOf n) (λ y. f y *ℤ pos (times y codes) ≡ f y) (λ y is. by_test y is.positive (test y) refl) (every_composition n) (each_composition n))
    where
      by_test : (y : Code) → IsComposition y → (t : Bool) → test y ≡ t → f y *ℤ pos (times y codes) ≡ f y
      by_test y h true passes = ap (λ k. f y *ℤ pos k) (listed_once P codes lists y (h, passes)) ∙ *ℤ-one (f y)
      by_test y h false fails =
          ap (λ k. f y *ℤ pos k) (not_listed P codes lists y (λ p. true≢false (sym p.1 ∙ fails))) ∙ *ℤ-zero (f y) ∙ sym (none y fails)

  -- so no more than 2^n pass
  pub few_passing : length codes ≤ 2 ^ n
  few_passing =
      let f = λ (code : Code). pos (one_if (test code)) in
      let count : length codes ≡ sums (λ code. one_if (test code)) (every_composition n) =
      pos_same (length codes) (sums (λ code. one_if (test code)) (every_composition n))
      (sym (ones codes)
      ∙ sum_over_same (λ code. pos 1) f codes (All-weaker P (λ v. pos 1 ≡ f v) (λ v p. ap (λ t. pos (one_if t)) (sym p.1)) codes all_pass)
      ∙ sum_over_passing f (λ v e. ap (λ t. pos (one_if t)) e)
      ∙ ones_where test (every_composition n)) in
      omega (arith, few_pass test (every_composition n), few_compositions n)

  -- terms with signs over the list weigh the sum over all compositions, whatever they weigh
  pub weighed-passing : (signs : Code → ℕ) (weight : Key → ℤ)
      → weighed weight (signed_terms signs codes) ≡ sum_over (λ code. sign_if (test code) (signs code) *ℤ weight (code ∷ [])) (every_composition n)
  weighed-passing signs weight =
      let f = λ (code : Code). sign_if (test code) (signs code) *ℤ weight (code ∷ []) in
      sum_over-map (λ (t : ℤ × Key). t.0 *ℤ weight t.1) (λ code. (with_sign (signs code) (pos 1), code ∷ [])) codes
      ∙ sum_over_same (λ code. with_sign (signs code) (pos 1) *ℤ weight (code ∷ [])) f codes
      (All-weaker P (λ v. with_sign (signs v) (pos 1) *ℤ weight (v ∷ []) ≡ f v) (λ v p. ap (λ t. sign_if t (signs v) *ℤ weight (v ∷ [])) (sym p.1)) codes all_pass)
      ∙ sum_over_passing f (λ v e. ap (λ t. sign_if t (signs v) *ℤ weight (v ∷ [])) e ∙ zero-*ℤ (weight (v ∷ [])))
