-- Sums, differences and multiples of combinations, from combinations of their terms.
use Rattle.std.proofs.Common.{◌≡◌, ℕ, ◌*◌, ◌/◌, ◌≤◌, sym, ◌∙◌, ap}
use Rattle.std.proofs.Math.IntN.{ℤ, pos, negsuc, neg_ℤ, ◌+ℤ◌, ◌*ℤ◌, *ℤ-one, *ℤ-negsuc, one}
use Rattle.hopf_num.specs.Divisors.{IsLcm}
use Rattle.hopf_num.proofs.Ring.{*ℤ_assoc}
use Rattle.hopf_num.proofs.SumsOfRatios.{ratio-sum}
use Rattle.realisations.specs.Combinations.{Combination, weighed}
use Rattle.linear_combos.specs.Combos.{IsSum, IsDifference, IsMultiple}
use Rattle.linear_combos.specs.Merges.{IsCombined, IsOver, IsSignedSum}
use Rattle.realisations.proofs.Agreement.{times_turned}

-- over the least common multiple of the denominators
pub IsSignedSum-combined : (a b c : Combination) (m : ℕ) (sign : ℤ) → 1 ≤ m → IsLcm a.den b.den m
    → IsCombined a.rank m a.terms (pos (m / a.den)) b.terms (pos (m / b.den) *ℤ sign) c → IsSignedSum a b sign c
IsSignedSum-combined a b c m sign positive least is = record {
  rank = is.rank;
  weighs = λ w.
      let second : weighed w b.terms *ℤ (pos (m / b.den) *ℤ sign) ≡ (weighed w b.terms *ℤ sign) *ℤ pos (m / b.den) =
      *ℤ_assoc (weighed w b.terms) (pos (m / b.den)) sign ∙ times_turned (weighed w b.terms) (pos (m / b.den)) sign in
      ratio-sum (weighed w a.terms) (weighed w b.terms *ℤ sign) (weighed w a.terms *ℤ pos (m / a.den) +ℤ weighed w b.terms *ℤ (pos (m / b.den) *ℤ sign)) (weighed w c.terms)
      a.den b.den m c.den positive least.0 least.1 (ap (λ z. weighed w a.terms *ℤ pos (m / a.den) +ℤ z) second) (is.weighs w);
  keys = is.keys;
}

-- with the sign 1 it is the sum
pub IsSum-signed : (a b c : Combination) → IsSignedSum a b (pos 1) c → IsSum a b c
unfolding one
IsSum-signed a b c is = record {
  rank = is.rank;
  weighs = λ w. is.weighs w ∙ ap (λ z. (weighed w a.terms *ℤ pos b.den +ℤ z *ℤ pos a.den) *ℤ pos c.den) (*ℤ-one (weighed w b.terms));
  keys = is.keys;
}

-- with the sign -1 it is the difference
pub IsDifference-signed : (a b c : Combination) → IsSignedSum a b (negsuc 0) c → IsDifference a b c
unfolding one
IsDifference-signed a b c is = record {
  rank = is.rank;
  weighs = λ w.
      let x = weighed w b.terms in
      let negative : (x *ℤ negsuc 0) *ℤ pos a.den ≡ neg_ℤ (x *ℤ pos a.den) =
      times_turned x (negsuc 0) (pos a.den) ∙ *ℤ-negsuc (x *ℤ pos a.den) 0 ∙ ap neg_ℤ (*ℤ-one (x *ℤ pos a.den)) in
      is.weighs w ∙ ap (λ z. (weighed w a.terms *ℤ pos b.den +ℤ z) *ℤ pos c.den) negative;
  keys = is.keys;
}

-- the terms themselves over a multiple of the denominator
pub IsMultiple-over : (a c : Combination) (den : ℕ) → IsOver a.rank (a.den * den) a.terms c → IsMultiple a (record { num = pos 1; den = den }) c
unfolding one
IsMultiple-over a c den is = record {
  rank = is.rank;
  weighs = λ w. is.weighs w ∙ ap (λ z. z *ℤ pos c.den) (sym (*ℤ-one (weighed w a.terms)));
  keys = is.keys;
}
