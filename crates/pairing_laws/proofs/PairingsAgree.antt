-- Pairings respect agreement of readings at points.
use Rattle.std.proofs.Common.{ℕ, ◌*◌, List, sym, ◌∙◌, ap}
use Rattle.std.proofs.Math.IntN.{pos, ◌*ℤ◌, pos-*ℤ-pos}
use Rattle.realisations.specs.Lists.{with_sign}
use Rattle.realisations.specs.Pairings.{Paired, paired_tuples}
use Rattle.realisations.specs.Points.{ArePoints}
use Rattle.realisations.specs.Readings.{kinds_of, numerator, denominator}
use Rattle.realisations.proofs.PointsOfReadings.{at_points}
use Rattle.antipode_laws.proofs.IntegerSums.{sum_over, sum_over-times, with_sign-times_right}
use Rattle.pairing_laws.specs.Laws.{AgreementLaw}
use Rattle.pairing_laws.proofs.IntegerProducts.{four_factors}
use Rattle.antipode_laws.proofs.ReadAtPoints.{sum_over_every}

-- readings that agree at points may take each other's place in a pairing
pub pairing_agrees : AgreementLaw
pairing_agrees n a a' b b' ka kb left right =
    sum_over-times (λ (t : Paired (List (List ℕ))). with_sign t.0 (numerator a t.1 *ℤ numerator b t.2)) (pos (denominator a' * denominator b')) (paired_tuples n (kinds_of a) (kinds_of b))
    ∙ sum_over_every (λ (t : Paired (List (List ℕ))). ArePoints (kinds_of a) t.1 × ArePoints (kinds_of b) t.2) _ _
    (λ t h.
    sym (with_sign-times_right t.0 (numerator a t.1 *ℤ numerator b t.2) (pos (denominator a' * denominator b')))
    ∙ ap (with_sign t.0)
    (ap (λ z. (numerator a t.1 *ℤ numerator b t.2) *ℤ z) (sym (pos-*ℤ-pos (denominator a') (denominator b')))
    ∙ four_factors (numerator a t.1) (numerator b t.2) (pos (denominator a')) (pos (denominator b'))
    ∙ (λ i. left t.1 h.0 i *ℤ right t.2 h.1 i)
    ∙ sym (four_factors (numerator a' t.1) (numerator b' t.2) (pos (denominator a)) (pos (denominator b)))
    ∙ ap (λ z. (numerator a' t.1 *ℤ numerator b' t.2) *ℤ z) (pos-*ℤ-pos (denominator a) (denominator b)))
    ∙ with_sign-times_right t.0 (numerator a' t.1 *ℤ numerator b' t.2) (pos (denominator a * denominator b)))
    (paired_tuples n (kinds_of a) (kinds_of b)) (at_points.pairings n (kinds_of a) (kinds_of b))
    ∙ sym (sum_over-times (λ (t : Paired (List (List ℕ))). with_sign t.0 (numerator a' t.1 *ℤ numerator b' t.2)) (pos (denominator a * denominator b)) (paired_tuples n (kinds_of a) (kinds_of b)))
    ∙ (λ i. sum_over (λ (t : Paired (List (List ℕ))). with_sign t.0 (numerator a' t.1 *ℤ numerator b' t.2)) (paired_tuples n (ka i) (kb i)) *ℤ pos (denominator a * denominator b))
