-- Bounds of sums of numbers and of integers, and cases up to ten.
use Rattle.std.proofs.Common.{◌≡◌, ℕ, zero, suc, ◌*◌, ◌≤◌, List, [], ◌∷◌, length, refl, arith, unsigned_abs}
use Rattle.std.specs.List.{AllByRecursion}
use Rattle.std.proofs.Math.IntN.{ℤ}
use Rattle.std.proofs.lemmas.Int.{ints}
use Rattle.realisations.specs.Lists.{with_sign}
use Rattle.realisations.proofs.Sums.{sums}
use Rattle.antipode_laws.proofs.IntegerSums.{sum_over}

-- what is at most as large at each element has at most as large a sum
pub sums_le : {X : Type 0} (f g : X → ℕ) → ((x : X) → f x ≤ g x) → (xs : List X) → sums f xs ≤ sums g xs
sums_le f g h [] = omega arith
sums_le f g h (x ∷ xs) = omega (arith, h x, sums_le f g h xs)

pub sums_le_every : {X : Type 0} (P : X → Type 0) (f g : X → ℕ) → ((x : X) → P x → f x ≤ g x) → (xs : List X) → AllByRecursion P xs → sums f xs ≤ sums g xs
sums_le_every P f g h [] every = omega arith
sums_le_every P f g h (x ∷ xs) every = omega (arith, h x every.0, sums_le_every P f g h xs every.1)

-- a sum of the same number
pub sums_constant : {X : Type 0} (n : ℕ) (xs : List X) → sums (λ x. n) xs ≡ n * length xs
sums_constant n [] = omega arith
sums_constant n (x ∷ xs) = omega (arith, sums_constant n xs)

-- no term is past b
pub sums_at_most : {X : Type 0} (f : X → ℕ) (b : ℕ) → ((x : X) → f x ≤ b) → (xs : List X) → sums f xs ≤ b * length xs
sums_at_most f b h [] = omega arith
sums_at_most f b h (x ∷ xs) = omega (arith, h x, sums_at_most f b h xs)

-- a sum of integers is no larger than that of their absolute values
pub abs-sum_over : {X : Type 0} (f : X → ℤ) (xs : List X) → unsigned_abs (sum_over f xs) ≤ sums (λ x. unsigned_abs (f x)) xs
abs-sum_over f [] = omega arith
abs-sum_over f (x ∷ xs) = omega (arith, ints, abs-sum_over f xs)

-- a sign leaves the absolute value
pub abs-with_sign : (k : ℕ) (z : ℤ) → unsigned_abs (with_sign k z) ≡ unsigned_abs z
abs-with_sign zero z = refl
abs-with_sign (suc k) z = omega (arith, ints, abs-with_sign k z)

-- what holds of the numbers up to ten
pub up_to_ten : (P : ℕ → Type 0) → P 0 → P 1 → P 2 → P 3 → P 4 → P 5 → P 6 → P 7 → P 8 → P 9 → P 10 → (n : ℕ) → n ≤ 10 → P n
up_to_ten P p0 p1 p2 p3 p4 p5 p6 p7 p8 p9 p10 zero le = p0
up_to_ten P p0 p1 p2 p3 p4 p5 p6 p7 p8 p9 p10 (suc zero) le = p1
up_to_ten P p0 p1 p2 p3 p4 p5 p6 p7 p8 p9 p10 (suc (suc zero)) le = p2
up_to_ten P p0 p1 p2 p3 p4 p5 p6 p7 p8 p9 p10 (suc (suc (suc zero))) le = p3
up_to_ten P p0 p1 p2 p3 p4 p5 p6 p7 p8 p9 p10 (suc (suc (suc (suc zero)))) le = p4
up_to_ten P p0 p1 p2 p3 p4 p5 p6 p7 p8 p9 p10 (suc (suc (suc (suc (suc zero))))) le = p5
up_to_ten P p0 p1 p2 p3 p4 p5 p6 p7 p8 p9 p10 (suc (suc (suc (suc (suc (suc zero)))))) le = p6
up_to_ten P p0 p1 p2 p3 p4 p5 p6 p7 p8 p9 p10 (suc (suc (suc (suc (suc (suc (suc zero))))))) le = p7
up_to_ten P p0 p1 p2 p3 p4 p5 p6 p7 p8 p9 p10 (suc (suc (suc (suc (suc (suc (suc (suc zero)))))))) le = p8
up_to_ten P p0 p1 p2 p3 p4 p5 p6 p7 p8 p9 p10 (suc (suc (suc (suc (suc (suc (suc (suc (suc zero))))))))) le = p9
up_to_ten P p0 p1 p2 p3 p4 p5 p6 p7 p8 p9 p10 (suc (suc (suc (suc (suc (suc (suc (suc (suc (suc zero)))))))))) le = p10
up_to_ten P p0 p1 p2 p3 p4 p5 p6 p7 p8 p9 p10 (suc (suc (suc (suc (suc (suc (suc (suc (suc (suc (suc n))))))))))) le = absurd (omega (arith, le))
