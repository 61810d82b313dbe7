-- A ratio in lowest terms.
use Rattle.std.proofs.Common.{◌≡◌, ◌≢◌, ℕ, zero, suc, ◌*◌, ◌/◌, ◌^◌, ◌<◌, ◌≤◌, ℤ, pos, negsuc, ◌*ℤ◌, neg_ℤ, int_div, unsigned_abs, arith, refl, sym, ap, ◌∙◌, subst}
use Rattle.std.specs.Int.{◌∣◌, IsGcd}
use Rattle.std.proofs.Math.IntN.{*ℤ_comm, pos-*ℤ-pos}
use Rattle.std.proofs.Math.Nat.{mul-div_cancel', pos_of_dvd_of_pos, div-le_self, mul-zero, mul_comm, dvd-mul_left}
use Rattle.std.proofs.lemmas.Int.{unsigned_abs-mul}
use Rattle.std.proofs.lemmas.Nat.Gcd.{dvd_antisymm}
use Rattle.hopf_num.specs.Fractions.{Ratio, IsFraction}
use Rattle.hopf_num.proofs.CommonDivisors.{IsGcd-turned, IsGcd-quotients, dvd-times_coprime}
use Rattle.hopf_num.proofs.Ring.{*ℤ_assoc, *ℤ-neg_ℤ, *ℤ-pos_cancel}

pub abs-neg : (n : ℕ) → unsigned_abs (neg_ℤ (pos n)) ≡ n
abs-neg zero = refl
abs-neg (suc n) = refl

-- the quotient by a natural number keeps the sign
pub abs-int_div : (num : ℤ) (g : ℕ) → unsigned_abs (int_div num (pos g)) ≡ unsigned_abs num / g
abs-int_div (pos n) g = refl
abs-int_div (negsuc n) g = abs-neg (suc n / g)

-- the quotient by a divisor, times that divisor
pub int_div-times : (num : ℤ) (g : ℕ) → g ∣ unsigned_abs num → int_div num (pos g) *ℤ pos g ≡ num
int_div-times (pos n) g divides = pos-*ℤ-pos (n / g) g ∙ ap pos (mul_comm (n / g) g ∙ mul-div_cancel' g divides)
int_div-times (negsuc n) g divides =
    let back : suc n / g * g ≡ suc n = mul_comm (suc n / g) g ∙ mul-div_cancel' g divides in
    *ℤ_comm (neg_ℤ (pos (suc n / g))) (pos g) ∙ *ℤ-neg_ℤ (pos g) (pos (suc n / g)) ∙ ap neg_ℤ (*ℤ_comm (pos g) (pos (suc n / g)) ∙ pos-*ℤ-pos (suc n / g) g ∙ ap pos back)

-- the greatest common divisor of a number and a positive one is positive
pub gcd-positive : (n den g : ℕ) → 1 ≤ den → IsGcd n den g → 0 < g
gcd-positive n den g positive is = pos_of_dvd_of_pos is.1 positive

pub positive-quotient : (den g : ℕ) → 1 ≤ den → g ∣ den → 1 ≤ den / g
positive-quotient den g positive divides = some (den / g) refl
  where
    some : (q : ℕ) → den / g ≡ q → 1 ≤ den / g
    some zero e =
        let back : g * (den / g) ≡ den = mul-div_cancel' g divides in
        let none : g * (den / g) ≡ 0 = ap (λ n. g * n) e ∙ mul-zero g in
        absurd (omega (arith, positive, back, none))
    some (suc q) e = omega (arith, e)

-- both numbers without their greatest common divisor are a fraction
pub IsFraction-quotients : (num : ℤ) (den g : ℕ) → unsigned_abs num < 2 ^ 127 → 1 ≤ den → den < 2 ^ 127
    → IsGcd (unsigned_abs num) den g → IsFraction (record { num = int_div num (pos g); den = den / g })
IsFraction-quotients num den g small positive den_small is =
    let size = abs-int_div num g in
    let below : unsigned_abs num / g ≤ unsigned_abs num = div-le_self (unsigned_abs num) g in
    let den_below : den / g ≤ den = div-le_self den g in
    record {
      positive = positive-quotient den g positive is.1;
      lowest = subst (λ n. IsGcd n (den / g) 1) (sym size) (IsGcd-quotients _ _ g (gcd-positive _ den g positive is) is);
      num_small = omega (arith, size, below, small);
      den_small = omega (arith, den_below, den_small);
    }

-- and it is the same number
pub ratio-quotients : (num : ℤ) (den g : ℕ) → IsGcd (unsigned_abs num) den g
    → int_div num (pos g) *ℤ pos den ≡ num *ℤ pos (den / g)
ratio-quotients num den g is =
    let back : g * (den / g) ≡ den = mul-div_cancel' g is.1 in
    ap (λ n. int_div num (pos g) *ℤ pos n) (sym back) ∙ ap (λ z. int_div num (pos g) *ℤ z) (sym (pos-*ℤ-pos g (den / g)))
    ∙ *ℤ_assoc (int_div num (pos g)) (pos g) (pos (den / g)) ∙ ap (λ z. z *ℤ pos (den / g)) (int_div-times num g is.0)

-- two fractions that are the same number have the same numerator and denominator
pub fraction-unique : (r s : Ratio) → IsFraction r → IsFraction s → r.num *ℤ pos s.den ≡ s.num *ℤ pos r.den → r ≡ s
fraction-unique r s hr hs same =
    let sizes : unsigned_abs r.num * s.den ≡ unsigned_abs s.num * r.den =
    sym (unsigned_abs-mul r.num (pos s.den)) ∙ ap unsigned_abs same ∙ unsigned_abs-mul s.num (pos r.den) in
    let left : r.den ∣ s.den = dvd-times_coprime _ _ _ (IsGcd-turned _ _ _ hr.lowest) (subst (λ n. r.den ∣ n) (sym sizes) (dvd-mul_left r.den (unsigned_abs s.num))) in
    let right : s.den ∣ r.den = dvd-times_coprime _ _ _ (IsGcd-turned _ _ _ hs.lowest) (subst (λ n. s.den ∣ n) sizes (dvd-mul_left s.den (unsigned_abs r.num))) in
    let den : r.den ≡ s.den = dvd_antisymm left right in
    let num : r.num ≡ s.num = *ℤ-pos_cancel r.num s.num s.den hs.positive (same ∙ ap (λ n. s.num *ℤ pos n) den) in
    λ i. record { num = num i; den = den i }

abs-positive : (z : ℤ) → z ≢ pos 0 → 1 ≤ unsigned_abs z
abs-positive (pos zero) h = absurd (h refl)
abs-positive (pos (suc n)) h = omega arith
abs-positive (negsuc n) h = omega arith

-- a denominator, with some sign, over an absolute numerator
pub IsFraction-turned : (r : Ratio) (num : ℤ) (den : ℕ) → IsFraction r → r.num ≢ pos 0 → unsigned_abs num ≡ r.den → den ≡ unsigned_abs r.num
    → IsFraction (record { num = num; den = den })
IsFraction-turned r num den is nonzero size whole = record {
  positive = rw whole (abs-positive r.num nonzero);
  lowest = rw (size, whole) (IsGcd-turned _ _ _ is.lowest);
  num_small = rw size is.den_small;
  den_small = rw whole is.num_small;
}
