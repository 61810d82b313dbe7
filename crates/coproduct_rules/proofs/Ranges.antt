-- Sums over ranges of numbers.
use Rattle.std.proofs.Common.{◌≡◌, ℕ, zero, suc, ◌+◌, ◌<◌, ◌≤◌, refl, ap, arith}
use Rattle.std.specs.List.{range_with_len}
use Rattle.realisations.proofs.Sums.{sums}

-- nothing counts in the range
pub sums_range_none : (f : ℕ → ℕ) (s n : ℕ) → ((k : ℕ) → s ≤ k → k < s + n → f k ≡ 0) → sums f (range_with_len s n) ≡ 0
sums_range_none f s zero h = refl
sums_range_none f s (suc n) h = omega (arith, h s (omega arith) (omega arith), sums_range_none f (s + 1) n (λ k a b. h k (omega arith) (omega arith)))

-- functions that agree on a range
pub sums_range_alike : (f g : ℕ → ℕ) (s n : ℕ) → ((k : ℕ) → s ≤ k → k < s + n → f k ≡ g k) → sums f (range_with_len s n) ≡ sums g (range_with_len s n)
sums_range_alike f g s zero h = refl
sums_range_alike f g s (suc n) h = omega (arith, h s (omega arith) (omega arith), sums_range_alike f g (s + 1) n (λ k a b. h k (omega arith) (omega arith)))

-- a sum over a range that begins one later
pub sums_range_shift : (f : ℕ → ℕ) (s n : ℕ) → sums f (range_with_len (suc s) n) ≡ sums (λ k. f (suc k)) (range_with_len s n)
sums_range_shift f s zero = refl
sums_range_shift f s (suc n) =
    let e : suc s + 1 ≡ suc (s + 1) = omega arith in
    omega (arith, ap (λ a. sums f (range_with_len a n)) e, sums_range_shift f (s + 1) n)
