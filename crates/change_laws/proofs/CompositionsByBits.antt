-- All compositions of n, by lists of n - 1 bits: each stands once among them.
use Rattle.std.proofs.Common.{◌≡◌, ℕ, zero, suc, ◌+◌, ◌^◌, ◌≤◌, Bool, true, false, ◌&&◌, List, [], ◌∷◌, map, length, refl, sym, ◌∙◌, ap, subst, arith}
use Rattle.std.specs.Prelude.{not}
use Rattle.std.specs.List.{sum}
use Rattle.std.proofs.Math.Nat.{pow-suc}
use Rattle.std.proofs.lemmas.Bool.Decides.{same_from_decides}
use Rattle.std.proofs.lemmas.List.{length-append, length-map}
use Rattle.realisations.specs.Codes.{Code}
use Rattle.realisations.specs.IndexKinds.{IsComposition}
use Rattle.realisations.specs.Lists.{same_list, one_if}
use Rattle.realisations.proofs.Sums.{sums, sums-append, sums-map, sums_none}
use Rattle.basis_representatives.proofs.Bits.{composition_of, bits_of}
use Rattle.basis_representatives.proofs.Places.{pairwise}
use Rattle.basis_representatives.proofs.DescentBits.{sum-composition_of, bits_of-composition_of}
use Rattle.basis_representatives.proofs.Refinement.{by_bits}
use Rattle.basis_representatives.proofs.SameLists.{same_list-true, same_list-self}
use Rattle.change_laws.proofs.BitMatrices.{all_bits}
use Rattle.change_laws.proofs.ListedSums.{times}

-- two bits are the same
abbrev pub alike : Bool → Bool → Bool
alike true y = y
alike false y = not y

alike-self : (a : List Bool) → pairwise alike a a ≡ true
alike-self [] = refl
alike-self (true ∷ a) = alike-self a
alike-self (false ∷ a) = alike-self a

alike-true : (a b : List Bool) → pairwise alike a b ≡ true → a ≡ b
alike-true [] [] h = refl
alike-true [] (y ∷ b) h = absurd (cc)
alike-true (x ∷ a) [] h = absurd (cc)
alike-true (true ∷ a) (true ∷ b) h = ap (λ bs. true ∷ bs) (alike-true a b h)
alike-true (true ∷ a) (false ∷ b) h = absurd (cc)
alike-true (false ∷ a) (true ∷ b) h = absurd (cc)
alike-true (false ∷ a) (false ∷ b) h = ap (λ bs. false ∷ bs) (alike-true a b h)

-- compositions are the same where their bits are
pub same_list-composition_of : (a b : List Bool) → same_list (composition_of a) (composition_of b) ≡ pairwise alike a b
same_list-composition_of a b =
    same_from_decides {P = a ≡ b} (same_list (composition_of a) (composition_of b)) (pairwise alike a b)
    (λ h. sym (bits_of-composition_of a) ∙ ap bits_of (same_list-true (composition_of a) (composition_of b) h) ∙ bits_of-composition_of b, λ e. ap (λ v. same_list (composition_of v) (composition_of b)) e ∙ same_list-self (composition_of b))
    (alike-true a b, λ e. ap (λ v. pairwise alike v b) e ∙ alike-self b)

-- a composition with bits is not empty
pub same_list-empty_first : (bits : List Bool) → same_list [] (composition_of bits) ≡ false
same_list-empty_first bits = no_same (composition_of bits) (sum-composition_of bits)
  where
    no_same : (parts : List ℕ) → sum parts ≡ suc (length bits) → same_list [] parts ≡ false
    no_same [] e = absurd (omega (arith, e))
    no_same (i ∷ parts) e = refl

pub same_list-empty_second : (bits : List Bool) → same_list (composition_of bits) [] ≡ false
same_list-empty_second bits = no_same (composition_of bits) (sum-composition_of bits)
  where
    no_same : (parts : List ℕ) → sum parts ≡ suc (length bits) → same_list parts [] ≡ false
    no_same [] e = absurd (omega (arith, e))
    no_same (i ∷ parts) e = refl

-- each list of n bits stands once among all of them
bits_once : (a : List Bool) → sums (λ b. one_if (pairwise alike b a)) (all_bits (length a)) ≡ 1
bits_once [] = refl
bits_once (x ∷ a) =
    sums-append (λ b. one_if (pairwise alike b (x ∷ a))) (map (λ bits. true ∷ bits) (all_bits (length a))) (map (λ bits. false ∷ bits) (all_bits (length a)))
    ∙ (λ i. sums-map (λ b. one_if (pairwise alike b (x ∷ a))) (λ bits. true ∷ bits) (all_bits (length a)) i
    + sums-map (λ b. one_if (pairwise alike b (x ∷ a))) (λ bits. false ∷ bits) (all_bits (length a)) i)
    ∙ by_first x (bits_once a)
  where
    by_first : (y : Bool) → sums (λ b. one_if (pairwise alike b a)) (all_bits (length a)) ≡ 1
        → sums (λ b. one_if (alike true y && pairwise alike b a)) (all_bits (length a)) + sums (λ b. one_if (alike false y && pairwise alike b a)) (all_bits (length a)) ≡ 1
    by_first true e = omega (arith, e, sums_none (λ (b : List Bool). 0) (λ b. refl) (all_bits (length a)))
    by_first false e = omega (arith, e, sums_none (λ (b : List Bool). 0) (λ b. refl) (all_bits (length a)))

-- the compositions of n
abbrev pub every_composition : ℕ → List Code
every_composition zero = [] ∷ []
every_composition (suc n) = map composition_of (all_bits n)

of_bits_once : (a : List Bool) → times (composition_of a) (map composition_of (all_bits (length a))) ≡ 1
of_bits_once a =
    sums-map (λ v. one_if (same_list v (composition_of a))) composition_of (all_bits (length a))
    ∙ (λ i. sums (λ b. one_if (same_list-composition_of b a i)) (all_bits (length a)))
    ∙ bits_once a

-- each of them stands there once
pub every_composition_once : (parts : Code) → IsComposition parts → times parts (every_composition (sum parts)) ≡ 1
every_composition_once parts h =
    by_bits (λ ps. times ps (every_composition (sum ps)) ≡ 1) refl
    (λ bits. subst (λ n. times (composition_of bits) (every_composition n) ≡ 1) (sym (sum-composition_of bits)) (of_bits_once bits)) parts h

length-all_bits_is : (n : ℕ) → length (all_bits n) ≡ 2 ^ n
length-all_bits_is zero = refl
length-all_bits_is (suc n) =
    omega (
      arith,
      length-append (map (λ bits. true ∷ bits) (all_bits n)) (map (λ bits. false ∷ bits) (all_bits n)),
      length-map (all_bits n) (λ bits. true ∷ bits),
      length-map (all_bits n) (λ bits. false ∷ bits),
      length-all_bits_is n,
      pow-suc 2 n,
    )

-- there are at most 2^n
pub few_compositions : (n : ℕ) → length (every_composition n) ≤ 2 ^ n
few_compositions zero = omega arith
few_compositions (suc n) = omega (arith, length-map (all_bits n) composition_of, length-all_bits_is n, pow-suc 2 n)
