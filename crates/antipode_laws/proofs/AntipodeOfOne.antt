-- The antipode of the unit is the unit.
use Rattle.std.proofs.Common.{◌≡◌, ℕ, ◌+◌, Bool, true, false, List, [], ◌∷◌, refl, sym, ◌∙◌, ap, arith}
use Rattle.std.specs.Prelude.{if◌then◌else◌, nat_eq, ◌&&◌}
use Rattle.std.proofs.Math.IntN.{ℤ, pos, ◌*ℤ◌, *ℤ-one, one}
use Rattle.std.proofs.lemmas.Int.{ints}
use Rattle.std.proofs.lemmas.List.Folds.{list_all-append}
use Rattle.basis_names.specs.declared.bases.BasisId.{BasisId}
use Rattle.realisations.specs.Bases.{kind_of}
use Rattle.realisations.specs.Exponents.{is_one}
use Rattle.realisations.specs.Lists.{one_if}
use Rattle.realisations.specs.Points.{Kind, exponents, word}
use Rattle.realisations.specs.Readings.{applied, antipode, element, numerator, cuts}
use Rattle.realisations.specs.Words.{greatest, raise, shuffles}
use Rattle.antipode_laws.specs.Units.{is_unit}
use Rattle.antipode_laws.proofs.AntipodeConvolutions.{IgnoresZeros, convolved_left_is}
use Rattle.antipode_laws.proofs.AntipodeRecursion.{times_unit}
use Rattle.antipode_laws.proofs.IgnoredZeros.{leaf_ignores_zeros}
use Rattle.antipode_laws.proofs.IntegerSums.{sum_over_same, sum_over-zero}
use Rattle.antipode_laws.proofs.OperationReads.{over_ordinal_sum, takeuchi}
use Rattle.antipode_laws.proofs.RankOneReadings.{element_is, antipode_is}
use Rattle.antipode_laws.proofs.Shuffling.{over_step, over_nil_right}
use Rattle.antipode_laws.proofs.TakeuchiSums.{takeuchi_same, takeuchi-times_right}
use Rattle.antipode_laws.proofs.UnitElements.{empty_occurs}

-- the unit at a point
abbrev unit : Kind → List ℕ → ℤ
unit kind p = pos (one_if (is_unit kind p))

-- its coproduct is its tensor square
unit-coproduct : (kind : Kind) (u v : List ℕ) → over_ordinal_sum kind (unit kind) u v ≡ unit kind u *ℤ unit kind v
unfolding one
unit-coproduct exponents u v = omega (arith, ints, ap (λ b. pos (one_if b)) (list_all-append (λ n. nat_eq n 0) u v), both (is_one u) (is_one v))
  where
    both : (a b : Bool) → pos (one_if (a && b)) ≡ pos (one_if a) *ℤ pos (one_if b)
    both true true = refl
    both true false = refl
    both false true = refl
    both false false = refl
unit-coproduct word u [] = over_nil_right (unit word) u ∙ sym (*ℤ-one (unit word u))
unit-coproduct word [] (y ∷ v) = refl
unit-coproduct word (x ∷ u) (y ∷ v) =
    let k = greatest (x ∷ u) in
    omega (arith, ints, over_step (unit word) x u (k + y) (raise k v), sum_over-zero (shuffles u ((k + y) ∷ raise k v)), sum_over-zero (shuffles (x ∷ u) (raise k v)))

-- so it is its own antipode
unit-antipode : (kind : Kind) → IgnoresZeros kind (unit kind) → (p : List ℕ) → takeuchi kind (unit kind) p ≡ unit kind p
unit-antipode kind ignores p =
    sym (times_unit kind (takeuchi kind (unit kind)) p)
    ∙ sum_over_same _ _
    (λ (e : List ℕ × List ℕ). sym (takeuchi_same kind _ _ (λ w. unit-coproduct kind w e.1) e.0 ∙ takeuchi-times_right kind (unit kind) (unit kind e.1) e.0))
    (cuts kind p)
    ∙ convolved_left_is kind (unit kind) ignores p
    ∙ ap (λ z. if is_unit kind p then z else pos 0) (at_empty kind)
    ∙ by_test (is_unit kind p)
  where
    at_empty : (kind : Kind) → unit kind [] ≡ pos 1
    at_empty exponents = refl
    at_empty word = refl

    by_test : (b : Bool) → (if b then pos 1 else pos 0) ≡ pos (one_if b)
    by_test true = refl
    by_test false = refl

element_is_unit : (basis : BasisId) (p : List ℕ) → numerator (element basis []) (p ∷ []) ≡ unit (kind_of basis) p
element_is_unit basis p = element_is basis [] p ∙ ap (λ b. pos (one_if b)) (empty_occurs basis p)

unit_ignores_zeros : (basis : BasisId) → IgnoresZeros (kind_of basis) (unit (kind_of basis))
unit_ignores_zeros basis p =
    sym (element_is_unit basis p) ∙ leaf_ignores_zeros 0 (basis ∷ []) 1 ((pos 1, [] ∷ []) ∷ []) (p ∷ []) ∙ element_is_unit basis _

-- in every basis
pub antipode_of_one : (basis : BasisId) (p : List ℕ) → numerator (applied antipode 0 (element basis [])) (p ∷ []) ≡ numerator (element basis []) (p ∷ [])
antipode_of_one basis p =
    antipode_is (kind_of basis) (element basis []) refl p
    ∙ takeuchi_same (kind_of basis) _ _ (element_is_unit basis) p
    ∙ unit-antipode (kind_of basis) (unit_ignores_zeros basis) p
    ∙ sym (element_is_unit basis p)
