-- The near concatenation of two compositions, by the code's letters.
use Rattle.std.proofs.Common.{◌≡◌, ℕ, zero, suc, ◌+◌, ◌≤◌, List, [], ◌∷◌, ◌++◌, length, take, drop, get_or, refl, ap, arith}
use Rattle.std.specs.List.{sum}
use Rattle.compositions.proofs.Parts.{code_from_composition}
use Rattle.linear_combos.specs.Codes.{IsCode}
use Rattle.product_laws.specs.Ribbons.{near_concatenation, ribbon_products}
use Rattle.product_laws.proofs.Parts.{HasPart, sum-near_concatenation, composition-near_concatenation}
use Rattle.realisations.specs.IndexKinds.{IsComposition}

-- the parts of the first but the last, both joined, and the parts of the second behind its first
pub near_concatenation-parts : (n : ℕ) (j k : List ℕ) → length j ≡ suc n → 1 ≤ length k
    → (take n j ++ (get_or j n 0 + get_or k 0 0) ∷ []) ++ drop 1 k ≡ near_concatenation j k
near_concatenation-parts n [] k e some = absurd (omega (arith, e))
near_concatenation-parts n (i ∷ j) [] e some = absurd (omega (arith, some))
near_concatenation-parts zero (i ∷ []) (m ∷ k) e some = refl
near_concatenation-parts zero (i ∷ h ∷ j) (m ∷ k) e some = absurd (omega (arith, e))
near_concatenation-parts (suc n) (i ∷ []) (m ∷ k) e some = absurd (omega (arith, e))
near_concatenation-parts (suc n) (i ∷ h ∷ j) (m ∷ k) e some = ap (λ v. i ∷ v) (near_concatenation-parts n (h ∷ j) (m ∷ k) (omega (arith, e)) some)

-- it is a code
pub near_code : (j k : List ℕ) → IsComposition j → IsComposition k → 1 ≤ length k → sum j + sum k ≤ 12 → IsCode (near_concatenation j k)
near_code j k hj hk some le =
    code_from_composition (near_concatenation j k) (composition-near_concatenation j k hj hk) (omega (arith, sum-near_concatenation j k (has_part k some), le))
  where
    has_part : (k : List ℕ) → 1 ≤ length k → HasPart k
    has_part [] some = absurd (omega (arith, some))
    has_part (m ∷ k) some = tt

-- two compositions with parts have two products
pub two_products : (j k : List ℕ) → 1 ≤ length j → 1 ≤ length k → (j ++ k) ∷ near_concatenation j k ∷ [] ≡ ribbon_products j k
two_products [] k some some' = absurd (omega (arith, some))
two_products (i ∷ j) [] some some' = absurd (omega (arith, some'))
two_products (i ∷ j) (m ∷ k) some some' = refl
