-- Fractions: a whole numerator over a positive denominator.
use Rattle.std.specs.Prelude.{ℕ, ◌^◌, ◌<◌, ◌≤◌, ℤ, pos, negsuc, neg_ℤ, List, [], ◌++◌, ◌==◌, if◌then◌else◌, codes, unsigned_abs}
use Rattle.std.specs.Fmt.{decimal, signed_decimal}
use Rattle.std.specs.Int.{IsGcd}

-- a numerator over a denominator
pub record Ratio : Type 0 where
  pub num : ℤ
  pub den : ℕ

-- what every fraction meets: it is in lowest terms, and both of its numbers have room
pub record IsFraction (r : Ratio) : Type 0 where
  pub positive : 1 ≤ r.den
  pub lowest : IsGcd (unsigned_abs r.num) r.den 1
  pub num_small : unsigned_abs r.num < 2 ^ 127
  pub den_small : r.den < 2 ^ 127

-- a number with the sign of another one
abbrev pub with_sign_of : ℤ → ℕ → ℤ
with_sign_of (pos n) m = pos m
with_sign_of (negsuc n) m = neg_ℤ (pos m)

-- one over a ratio that is not 0: its denominator, with its sign, over its absolute numerator
abbrev pub reciprocal : Ratio → Ratio
reciprocal r = record { num = with_sign_of r.num r.den; den = unsigned_abs r.num }

-- a denominator in the text of a fraction: left out where it is 1
abbrev pub over_text : ℕ → List ℕ
over_text den = if den == 1 then [] else codes "/" ++ decimal den

-- the decimal text of a fraction
abbrev pub fraction_text : Ratio → List ℕ
fraction_text r = signed_decimal r.num ++ over_text r.den
