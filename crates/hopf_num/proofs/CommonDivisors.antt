-- Laws of greatest common divisors and least common multiples.
use Rattle.std.proofs.Common.{◌≡◌, ℕ, zero, suc, ◌*◌, ◌/◌, ◌%◌, ◌^◌, ◌↔◌, ◌<◌, ◌≤◌, arith, refl, subst, sym, ap, ◌∙◌}
use Rattle.std.specs.Int.{◌∣◌, IsGcd}
use Rattle.std.proofs.Math.Nat.{mod-lt, one-dvd, dvd-mul_left, dvd-mul_right, dvd_of_mul-dvd-mul_left, mul-dvd-mul_left, mul-div_cancel', pos_of_dvd_of_pos, mul-pos, mul_assoc, mul_comm, mul-one}
use Rattle.std.proofs.lemmas.Nat.Gcd.{IsGcd-from_zero, IsGcd-from_mod, dvd_trans, dvd-zero, le_of_dvd}
use Rattle.hopf_num.specs.Divisors.{IsLcm}
use Rattle.hopf_num.specs.Room.{HasRoom}
use Rattle.hopf_num.specs.declared.room.Need.TheVariants.{CommonDenominator}

gcd_by_fuel : (fuel a b : ℕ) → b ≤ fuel → (g : ℕ) × IsGcd a b g
gcd_by_fuel fuel a zero small = (a, IsGcd-from_zero a 0 refl)
gcd_by_fuel zero a (suc b) small = absurd (omega (arith, small))
gcd_by_fuel (suc fuel) a (suc b) small =
    let less : a % suc b < suc b = mod-lt a (omega arith) in
    let step = gcd_by_fuel fuel (suc b) (a % suc b) (omega (arith, less, small)) in
    (step.0, IsGcd-from_mod a (suc b) step.0 step.1)

pub gcd-exists : (a b : ℕ) → (g : ℕ) × IsGcd a b g
gcd-exists a b = gcd_by_fuel b a b (omega arith)

-- the order of the two numbers is no matter
pub IsGcd-turned : (a b g : ℕ) → IsGcd a b g → IsGcd b a g
IsGcd-turned a b g is = (is.1, is.0, λ d p q. is.2 d q p)

-- a factor comes out of a greatest common divisor
pub IsGcd-times : (k a b g : ℕ) → 0 < k → IsGcd a b g → IsGcd (k * a) (k * b) (k * g)
IsGcd-times k a b g positive is =
    let h = gcd-exists (k * a) (k * b) in
    let factor : k * (h.0 / k) ≡ h.0 = mul-div_cancel' k (h.1.2 k (dvd-mul_right k a) (dvd-mul_right k b)) in
    let left : (h.0 / k) ∣ a = dvd_of_mul-dvd-mul_left _ positive (subst (λ n. n ∣ k * a) (sym factor) h.1.0) in
    let right : (h.0 / k) ∣ b = dvd_of_mul-dvd-mul_left _ positive (subst (λ n. n ∣ k * b) (sym factor) h.1.1) in
    let whole : h.0 ∣ k * g = subst (λ n. n ∣ k * g) factor (mul-dvd-mul_left _ k (is.2 _ left right)) in
    (mul-dvd-mul_left g k is.0, mul-dvd-mul_left g k is.1, λ d p q. dvd_trans d (h.1.2 d p q) whole)

-- a divisor of a product that has no factor in common with the first number divides the second
pub dvd-times_coprime : (a b c : ℕ) → IsGcd a b 1 → a ∣ b * c → a ∣ c
dvd-times_coprime a b zero coprime divides = dvd-zero a
dvd-times_coprime a b (suc c) coprime divides =
    let is = IsGcd-times (suc c) a b 1 (omega arith) coprime in
    subst (λ n. a ∣ n) (mul-one (suc c)) (is.2 a (dvd-mul_left a (suc c)) (subst (λ n. a ∣ n) (mul_comm b (suc c)) divides))

-- two numbers without their greatest common divisor have no factor in common
pub IsGcd-quotients : (a b g : ℕ) → 0 < g → IsGcd a b g → IsGcd (a / g) (b / g) 1
IsGcd-quotients a b g positive is =
    let left : g * (a / g) ≡ a = mul-div_cancel' g is.0 in
    let right : g * (b / g) ≡ b = mul-div_cancel' g is.1 in (
      one-dvd _,
      one-dvd _,
      λ d p q.
          let up_left : g * d ∣ a = subst (λ n. g * d ∣ n) left (mul-dvd-mul_left d g p) in
          let up_right : g * d ∣ b = subst (λ n. g * d ∣ n) right (mul-dvd-mul_left d g q) in
          let all : g * d ∣ g * 1 = subst (λ n. g * d ∣ n) (sym (mul-one g)) (is.2 _ up_left up_right) in
          dvd_of_mul-dvd-mul_left _ positive all,
    )

-- the least common multiple is the product without one of its two greatest common divisors
pub IsLcm-quotient : (a b g : ℕ) → 0 < a → 0 < b → IsGcd a b g → IsLcm a b (a / g * b)
IsLcm-quotient a b g some_a some_b is =
    let positive : 0 < g = pos_of_dvd_of_pos is.0 some_a in
    let left : g * (a / g) ≡ a = mul-div_cancel' g is.0 in
    let right : g * (b / g) ≡ b = mul-div_cancel' g is.1 in
    let regroup : a * (b / g) ≡ a / g * b =
    ap (λ n. n * (b / g)) (sym left) ∙ ap (λ n. n * (b / g)) (mul_comm g (a / g)) ∙ mul_assoc (a / g) g (b / g) ∙ ap (λ n. a / g * n) right in (
      subst (λ n. a ∣ n) regroup (dvd-mul_right a (b / g)),
      dvd-mul_left b (a / g),
      λ k p q.
          let quotient : b * (k / b) ≡ k = mul-div_cancel' b q in
          let spread : b * (k / b) ≡ g * (b / g * (k / b)) = ap (λ n. n * (k / b)) (sym right) ∙ mul_assoc g (b / g) (k / b) in
          let scaled : g * (a / g) ∣ g * (b / g * (k / b)) =
          subst (λ n. n ∣ g * (b / g * (k / b))) (sym left) (subst (λ n. a ∣ n) (sym quotient ∙ spread) p) in
          let down : (a / g) ∣ b / g * (k / b) = dvd_of_mul-dvd-mul_left _ positive scaled in
          let last : (a / g) ∣ k / b = dvd-times_coprime _ _ _ (IsGcd-quotients a b g positive is) down in
          subst (λ n. a / g * b ∣ n) quotient (subst (λ n. n ∣ b * (k / b)) (mul_comm b (a / g)) (mul-dvd-mul_left _ b last)),
    )

-- the least common multiple of positive numbers is positive: it divides their product
pub lcm-pos : (a b m : ℕ) → 0 < a → 0 < b → IsLcm a b m → 0 < m
lcm-pos a b m some_a some_b is =
    pos_of_dvd_of_pos (is.2 (a * b) (dvd-mul_right a b) (dvd-mul_left b a)) (mul-pos some_a some_b)

-- the least common multiple has room exactly where some common multiple has
pub common_room : (a b m : ℕ) → 0 < a → 0 < b → IsLcm a b m → (m < 2 ^ 127) ↔ HasRoom (CommonDenominator a b)
common_room a b m some_a some_b is = (
  λ small. (m, lcm-pos a b m some_a some_b is, is.0, is.1, small),
  λ room. let below : m ≤ room.0 = le_of_dvd room.1 (is.2 room.0 room.2 room.3) in omega (arith, below, room.4),
)
