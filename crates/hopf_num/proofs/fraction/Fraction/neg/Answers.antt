use Rattle.std.proofs.Common.{◌≡◌, ℤ, pos, negsuc, neg_ℤ, unsigned_abs, subst, sym, ap, refl, ◌∙◌, zero, suc}
use Rattle.std.specs.Int.{IsGcd, w128}
use Rattle.std.proofs.lemmas.Int.{to_z-of_z, fits_signed_from_abs}
use Rattle.hopf_num.specs.Fractions.{Ratio, IsFraction}
use Rattle.hopf_num.proofs.fraction.Fraction.neg.Goals as goal

abs-neg_ℤ : (z : ℤ) → unsigned_abs (neg_ℤ z) ≡ unsigned_abs z
abs-neg_ℤ (pos zero) = refl
abs-neg_ℤ (pos (suc n)) = refl
abs-neg_ℤ (negsuc n) = refl

IsFraction-neg : (r : Ratio) → IsFraction r → IsFraction (record { num = neg_ℤ r.num; den = r.den })
IsFraction-neg r is = record {
  positive = is.positive;
  lowest = subst (λ n. IsGcd n r.den 1) (sym (abs-neg_ℤ r.num)) is.lowest;
  num_small = rw (abs-neg_ℤ r.num) is.num_small;
  den_small = is.den_small;
}

pub invariant_of-result : goal.invariant_of-result
invariant_of-result c =
    let num = to_z-of_z w128 c.self.inside.num (fits_signed_from_abs w128 c.self.inside.num c.self.invariant.num_small) in
    let value = to_z-of_z w128 c.negation.result (record { sfits = c.negation.type_inv }) ∙ c.negation.ensures ∙ ap neg_ℤ num in
    rw value (IsFraction-neg _ c.self.invariant)
