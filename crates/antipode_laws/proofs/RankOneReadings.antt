-- Readings of rank 1 and operations on them, at a point.
use Rattle.std.proofs.Common.{◌≡◌, ℕ, List, [], ◌∷◌, ◌∙◌, ap, arith}
use Rattle.std.proofs.Math.IntN.{ℤ, pos, ◌*ℤ◌}
use Rattle.std.proofs.lemmas.Int.{ints}
use Rattle.std.proofs.lemmas.List.{append-nil}
use Rattle.realisations.specs.Lists.{one_if}
use Rattle.basis_names.specs.declared.bases.BasisId.{BasisId}
use Rattle.realisations.specs.Occurrence.{occurs}
use Rattle.realisations.specs.Points.{Kind, exponents, word}
use Rattle.realisations.specs.Readings.{Reading, applied, product, element, numerator, kinds_of, cuts, all_cuts, reads_at, coproduct, antipode}
use Rattle.antipode_laws.proofs.IntegerSums.{one_value, sum_over, sum_over-flat_map, sum_over_same}
use Rattle.antipode_laws.proofs.Shuffling.{over_nil_right}
use Rattle.antipode_laws.proofs.OperationReads.{total, total_coproduct, total_antipode, over_ordinal_sum, over_point_cuts, takeuchi}

-- an element reads 1 where it occurs, and else 0
pub element_is : (basis : BasisId) (code p : List ℕ) → numerator (element basis code) (p ∷ []) ≡ pos (one_if (occurs basis code p))
element_is basis code p = omega (arith, ints)

module _ (kind : Kind) (a : Reading) (kinds : kinds_of a ≡ kind ∷ []) where
  pub antipode_is : (p : List ℕ) → numerator (applied antipode 0 a) (p ∷ []) ≡ takeuchi kind (λ q. numerator a (q ∷ [])) p
  antipode_is p =
      ap (λ (ks : List Kind). total (numerator a) (reads_at 0 antipode ks (p ∷ []))) kinds ∙ total_antipode kind (numerator a) p []

  pub coproduct_is : (u v : List ℕ) → numerator (applied coproduct 0 a) (u ∷ v ∷ []) ≡ over_ordinal_sum kind (λ q. numerator a (q ∷ [])) u v
  coproduct_is u v =
      ap (λ (ks : List Kind). total (numerator a) (reads_at 0 coproduct ks (u ∷ v ∷ []))) kinds ∙ total_coproduct kind (numerator a) u v []

  pub product_is : (b : Reading) (p : List ℕ) →
      numerator (product a b) (p ∷ []) ≡ over_point_cuts kind (λ u v. numerator a (u ∷ []) *ℤ numerator b (v ∷ [])) p
  product_is b p =
      let f : (List (List ℕ) × List (List ℕ)) → ℤ = λ (c : List (List ℕ) × List (List ℕ)). numerator a c.0 *ℤ numerator b c.1 in
      ap (λ (ks : List Kind). sum_over f (all_cuts ks (p ∷ []))) kinds
      ∙ sum_over-flat_map f (λ (c : List ℕ × List ℕ). (c.0 ∷ [], c.1 ∷ []) ∷ []) (cuts kind p)
      ∙ sum_over_same _ _ (λ (c : List ℕ × List ℕ). one_value f (c.0 ∷ [], c.1 ∷ [])) (cuts kind p)

-- the coproduct with nothing on the right is the function itself
pub over_ordinal_sum-nil : (kind : Kind) (f : List ℕ → ℤ) (u : List ℕ) → over_ordinal_sum kind f u [] ≡ f u
over_ordinal_sum-nil word f u = over_nil_right f u
over_ordinal_sum-nil exponents f u = omega (arith, ints, ap f (append-nil u))
