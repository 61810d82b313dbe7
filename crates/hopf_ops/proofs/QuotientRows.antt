-- The row of a quotient allows exactly one answer, whose value reads as the quotient.
use Rattle.std.proofs.Common.{◌≢◌, zero, suc, ◌≤◌, [], ◌∷◌, length, refl, arith, unsigned_abs}
use Rattle.std.proofs.Math.IntN.{ℤ, pos, negsuc}
use Rattle.std.proofs.Math.Nat.{mul-pos}
use Rattle.std.specs.Prelude.{All}
use Rattle.std.proofs.lemmas.List.Elements.{All-cons, All-nil}
use Rattle.hopf_num.specs.declared.room.Need.TheVariants.{Denominator, Product}
use Rattle.realisations.specs.Combinations.{norm_of}
use Rattle.hopf_laws.specs.Values.{Expansion, IsValue, reading_of, ratio_of}
use Rattle.basis_routes.specs.declared.checks.Check.TheVariants.{Scalar, Nonzero, Room}
use Rattle.basis_routes.specs.Checks.{IsCheck}
use Rattle.basis_routes.specs.Rows.{Decides}
use Rattle.basis_routes.proofs.DecidedRows.{checked_answers_decide}
use Rattle.hopf_ops.specs.Operations.{QuotientRow, quotient_checks}
use Rattle.hopf_ops.specs.ReadingOperations.{quotient}
use Rattle.hopf_ops.proofs.ConvertedOperands.{den-positive}
use Rattle.hopf_ops.proofs.MultiplesExist.{quotient_exists}

-- a number that is not 0 has a positive absolute value
abs-positive : (z : ℤ) → z ≢ pos 0 → 1 ≤ unsigned_abs z
abs-positive (pos zero) h = absurd (h refl)
abs-positive (pos (suc n)) h = omega arith
abs-positive (negsuc n) h = omega arith

quotient_checks_are : (a b : Expansion) → All IsCheck (quotient_checks a b)
quotient_checks_are a b =
    let scalar = Scalar (length b.bases) in
    let some = Nonzero (ratio_of b).num in
    let dens = Room (Denominator a.combination.den (unsigned_abs (ratio_of b).num)) in
    let norms = Room (Product (norm_of a.combination.terms) b.combination.den 0) in
    All-cons IsCheck scalar (some ∷ dens ∷ norms ∷ []) tt
    (All-cons IsCheck some (dens ∷ norms ∷ []) tt (All-cons IsCheck dens (norms ∷ []) tt (All-cons IsCheck norms [] (omega arith) (All-nil IsCheck))))

-- a quotient by a scalar
pub quotients_decide : (a b : Expansion) → IsValue a → IsValue b → Decides (QuotientRow a b) a.bases (quotient (reading_of a) (reading_of b))
quotients_decide a b ha hb =
    checked_answers_decide (quotient_checks a b) a.bases (quotient (reading_of a) (reading_of b)) (quotient_checks_are a b)
    (λ pass. record {
      positive = mul-pos (abs-positive (ratio_of b).num (pass 1 (Nonzero (ratio_of b).num) (omega arith))) (den-positive a ha);
      exists = quotient_exists a b ha hb pass;
      kinds = refl;
    })
