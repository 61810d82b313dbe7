-- The counit of an element of any basis, and the product of two components.
use Rattle.std.proofs.Common.{◌≡◌, ℕ, ◌+◌, ◌*◌, ◌<◌, Bool, true, false, List, [], ◌∷◌, ◌++◌, map, length, take, drop, refl, sym, ◌∙◌, ap, subst, arith}
use Rattle.std.proofs.Math.IntN.{pos, ◌+ℤ◌, ◌*ℤ◌}
use Rattle.std.proofs.lemmas.Bool.Decides.{nat_tests}
use Rattle.std.specs.Prelude.{nat_eq, ◌&&◌}
use Rattle.std.specs.List.{flat_map, sum}
use Rattle.realisations.specs.Lists.{same_list, one_if, int_sum, with_sign}
use Rattle.basis_names.specs.declared.bases.BasisId.{BasisId}
use Rattle.realisations.specs.Points.{Kind}
use Rattle.basis_names.specs.declared.bases.BasisId.TheVariants.{QsymM, QsymF, NcsfR, NcsfS, NcsfL, FqsymG, FqsymF, WqsymM, FsymS, PbtP}
use Rattle.realisations.specs.Bases.{kind_of}
use Rattle.realisations.specs.Occurrence.{occurs}
use Rattle.realisations.specs.Indices.{IsIndex}
use Rattle.realisations.specs.Readings.{Reading, applied, mult, product, tensor, element, of_key, kinds_of, numerator, denominator, cuts, all_cuts, reads_at, AgreeAt}
use Rattle.coproduct_rules.specs.Laws.{CounitLaw, MultLaw}
use Rattle.coproduct_rules.proofs.DegreeCuts.{sum-first}

-- no test of a composition with parts holds at the empty point
no_parts : (i : ℕ) (parts : List ℕ) (rest : Bool) → 0 < i → (nat_eq 0 (sum (i ∷ parts)) && rest) ≡ false
no_parts i parts rest h = rw (apart (sum-first i parts)) refl
  where
    apart : sum (i ∷ parts) ≡ i + sum parts → nat_eq 0 (sum (i ∷ parts)) ≡ false
    apart e = grind (arith, nat_tests)

-- the empty list is a list where that is empty
same_list-nil : (code : List ℕ) → same_list [] code ≡ same_list code []
same_list-nil [] = refl
same_list-nil (x ∷ code) = refl

-- at the empty point the element of the empty index occurs, and no other one
pub occurs-nil : (basis : BasisId) (code : List ℕ) → IsIndex basis code → occurs basis code [] ≡ same_list code []
occurs-nil QsymM code h = same_list-nil code
occurs-nil QsymF [] h = refl
occurs-nil QsymF (i ∷ parts) h = no_parts i parts _ h.0
occurs-nil NcsfR code h = same_list-nil code
occurs-nil NcsfS [] h = refl
occurs-nil NcsfS (i ∷ parts) h = no_parts i parts _ h.0
occurs-nil NcsfL [] h = refl
occurs-nil NcsfL (i ∷ parts) h = no_parts i parts _ h.0
occurs-nil FqsymG code h = same_list-nil code
occurs-nil FqsymF code h = same_list-nil code
occurs-nil WqsymM code h = same_list-nil code
occurs-nil FsymS code h = same_list-nil code
occurs-nil PbtP code h = same_list-nil code

-- the counit of each basis: 1 at the empty index, and 0 at every other
pub counit_rule : CounitLaw
counit_rule basis [] h = rw (occurs-nil basis [] h) refl
counit_rule basis (x ∷ code) h = rw (occurs-nil basis (x ∷ code) h) refl

-- the product of the components of a tensor is the product
module _ (a b : Reading) (kind : Kind) (one : kinds_of a ≡ kind ∷ []) where
  -- the sum over the cuts of a point, as one over pairs and as one over tuples of one
  over_cuts : (cs : List (List ℕ × List ℕ))
      → int_sum (map (λ (r : ℕ × List (List ℕ)). with_sign r.0 (numerator a (take 1 r.1) *ℤ numerator b (drop 1 r.1))) (map (λ c. (0, c.0 ∷ c.1 ∷ [])) cs))
      ≡ int_sum (map (λ (c : List (List ℕ) × List (List ℕ)). numerator a c.0 *ℤ numerator b c.1)
      (flat_map (λ c. map (λ (d : List (List ℕ) × List (List ℕ)). (c.0 ∷ d.0, c.1 ∷ d.1)) (([], []) ∷ [])) cs))
  over_cuts [] = refl
  over_cuts (c ∷ cs) = ap (λ z. (numerator a (c.0 ∷ []) *ℤ numerator b (c.1 ∷ [])) +ℤ z) (over_cuts cs)

  -- for any two readings of one component
  pub mult_of_tensor : (p : List ℕ) → AgreeAt (applied mult 0 (tensor a b)) (product a b) (p ∷ [])
  mult_of_tensor p =
      ap (λ z. z *ℤ (pos (denominator a * denominator b)))
      (subst (λ kinds. int_sum (map (λ (r : ℕ × List (List ℕ)). with_sign r.0 (numerator a (take (length kinds) r.1) *ℤ numerator b (drop (length kinds) r.1))) (reads_at 0 mult (kinds ++ kinds_of b) (p ∷ [])))
      ≡ int_sum (map (λ (c : List (List ℕ) × List (List ℕ)). numerator a c.0 *ℤ numerator b c.1) (all_cuts kinds (p ∷ []))))
      (sym one) (over_cuts (cuts kind p)))

-- the key of two codes reads as the tensor of their elements
numerator-pair : (basis : BasisId) (a b u v : List ℕ)
    → numerator (of_key (basis ∷ basis ∷ []) (a ∷ b ∷ [])) (u ∷ v ∷ []) ≡ numerator (tensor (element basis a) (element basis b)) (u ∷ v ∷ [])
numerator-pair basis a b u v = by_tests (occurs basis a u) (occurs basis b v)
  where
    by_tests : (s t : Bool) → (pos 1 *ℤ pos (one_if s * (one_if t * 1))) +ℤ pos 0 ≡ ((pos 1 *ℤ pos (one_if s * 1)) +ℤ pos 0) *ℤ ((pos 1 *ℤ pos (one_if t * 1)) +ℤ pos 0)
    by_tests true true = refl
    by_tests true false = refl
    by_tests false true = refl
    by_tests false false = refl

-- so the product of the components of a key is the product of its elements
pub mult_of_key : (basis : BasisId) (a b p : List ℕ) → AgreeAt (applied mult 0 (of_key (basis ∷ basis ∷ []) (a ∷ b ∷ []))) (product (element basis a) (element basis b)) (p ∷ [])
mult_of_key basis a b p =
    ap (λ z. z *ℤ pos 1) (each (cuts (kind_of basis) p))
    ∙ mult_of_tensor (element basis a) (element basis b) (kind_of basis) refl p
  where
    each : (cs : List (List ℕ × List ℕ))
        → int_sum (map (λ (r : ℕ × List (List ℕ)). with_sign r.0 (numerator (of_key (basis ∷ basis ∷ []) (a ∷ b ∷ [])) r.1)) (map (λ c. (0, c.0 ∷ c.1 ∷ [])) cs))
        ≡ int_sum (map (λ (r : ℕ × List (List ℕ)). with_sign r.0 (numerator (tensor (element basis a) (element basis b)) r.1)) (map (λ c. (0, c.0 ∷ c.1 ∷ [])) cs))
    each [] = refl
    each (c ∷ cs) = λ i. numerator-pair basis a b c.0 c.1 i +ℤ each cs i

-- the product of two components is the product
pub mult_is_product : MultLaw
mult_is_product = record { tensors = mult_of_tensor; elements = mult_of_key }
