-- Common divisors and common multiples. The greatest common divisor is std's `IsGcd`.
use Rattle.std.specs.Prelude.{ℕ}
use Rattle.std.specs.Int.{◌∣◌}

-- m is the least common multiple of a and b: both divide it, and it divides each number that both divide
abbrev pub IsLcm : ℕ → ℕ → ℕ → Type 0
IsLcm a b m = (a ∣ m) × (b ∣ m) × ((k : ℕ) → a ∣ k → b ∣ k → m ∣ k)
