-- Sums over ranges of numbers.
use Rattle.std.proofs.Common.{◌≡◌, ℕ, zero, suc, ◌+◌, ◌<◌, ◌≤◌, refl, sym, ◌∙◌, ap, arith, inl, inr}
use Rattle.std.proofs.lemmas.Bool.{cases_lt}
use Rattle.std.specs.List.{range_with_len}
use Rattle.realisations.proofs.Sums.{sums}

-- nothing counts in the range
sums_range_none : (f : ℕ → ℕ) (s n : ℕ) → ((k : ℕ) → s ≤ k → k < s + n → f k ≡ 0) → sums f (range_with_len s n) ≡ 0
sums_range_none f s zero h = refl
sums_range_none f s (suc n) h = omega (arith, h s (omega arith) (omega arith), sums_range_none f (s + 1) n (λ k a b. h k (omega arith) (omega arith)))

-- one number alone counts, which is in the range
sums_range_single : (f : ℕ → ℕ) (g s n : ℕ) → s ≤ g → g < s + n → ((k : ℕ) → s ≤ k → k < s + n → (k ≡ g → ⊥) → f k ≡ 0) → sums f (range_with_len s n) ≡ f g
sums_range_single f g s zero low high h = absurd (omega arith)
sums_range_single f g s (suc n) low high h = elim (cases_lt s g) [
  | inl later ↦
      omega (
        arith,
        h s (omega arith) (omega arith) (λ e. omega arith),
        sums_range_single f g (s + 1) n (omega arith) (omega arith) (λ k a b c. h k (omega arith) (omega arith) c),
      )
  | inr here ↦
      let same : s ≡ g = omega arith in
      omega (arith, ap f same, sums_range_none f (s + 1) n (λ k a b. h k (omega arith) (omega arith) (λ e. omega arith)))
]

-- one number alone counts, from 0 to n, and it counts nothing where it is not among them
pub sums_up_to_single : (f : ℕ → ℕ) (g n : ℕ) → ((k : ℕ) → k ≤ n → (k ≡ g → ⊥) → f k ≡ 0) → (n < g → f g ≡ 0) → sums f (range_with_len 0 (suc n)) ≡ f g
sums_up_to_single f g n h past = elim (cases_lt n g) [
  | inl more ↦ sums_range_none f 0 (suc n) (λ k a b. h k (omega arith) (λ e. omega arith)) ∙ sym (past more)
  | inr less ↦ sums_range_single f g 0 (suc n) (omega arith) (omega arith) (λ k a b c. h k (omega arith) c)
]
