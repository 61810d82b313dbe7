-- A decimal text, digit by digit.
use Rattle.std.proofs.Common.{◌≡◌, ℕ, ◌+◌, ◌/◌, ◌%◌, ◌^◌, ◌<◌, ◌≤◌, List, [], ◌∷◌, ◌++◌, length, take, set, arith, refl, ap, ◌∙◌, ℤ, negsuc, pos, unsigned_abs, true}
use Rattle.std.specs.Prelude.{int_lt}
use Rattle.std.proofs.lemmas.Bool.{ltb-true}
use Rattle.std.specs.Fmt.{decimal, signed_decimal}
use Rattle.std.proofs.lemmas.Fmt.{decimal_digit, decimal_step_wide, length-decimal-le_wide}
use Rattle.std.proofs.lemmas.List.{length-append}

pub length-one : (n : ℕ) → n < 10 → length (decimal n) ≡ 1
length-one n small = ap length (decimal_digit n small)

pub steps : (n : ℕ) → 10 ≤ n → n < 2 ^ 128 → decimal n ≡ decimal (n / 10) ++ (48 + n % 10) ∷ []
steps n big fits = decimal_step_wide n big (omega (arith, fits))

pub length-steps : (n : ℕ) → 10 ≤ n → n < 2 ^ 128 → length (decimal n) ≡ length (decimal (n / 10)) + 1
length-steps n big fits = ap length (steps n big fits) ∙ length-append (decimal (n / 10)) ((48 + n % 10) ∷ [])

-- a number below 2 ^ 127, and what is one past it, has at most 39 digits
pub length-decimal : (n : ℕ) → n ≤ 2 ^ 127 → length (decimal n) ≤ 39
length-decimal n small = length-decimal-le_wide 39 n (omega arith) (omega (arith, small)) (omega (arith, small))

-- the front of a list that begins with a byte
pub take-one : (xs : List ℕ) (b : ℕ) → 1 ≤ length xs → take 1 (set xs 0 b) ≡ b ∷ []
take-one [] b some = absurd (omega (arith, some))
take-one (x ∷ xs) b some = refl

pub signed-below : (z : ℤ) → int_lt z (pos 0) ≡ true → signed_decimal z ≡ 45 ∷ decimal (unsigned_abs z)
signed-below (pos n) less = absurd (omega (arith, ltb-true n 0 less))
signed-below (negsuc n) less = refl
