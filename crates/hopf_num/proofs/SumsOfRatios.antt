-- The sum of two ratios over a common multiple of their denominators.
use Rattle.std.proofs.Common.{◌≡◌, ℕ, ◌*◌, ◌/◌, ◌≤◌, ℤ, pos, ◌+ℤ◌, ◌*ℤ◌, sym, ap, ◌∙◌}
use Rattle.std.specs.Int.{◌∣◌}
use Rattle.std.proofs.Math.IntN.{pos-*ℤ-pos}
use Rattle.std.proofs.Math.Nat.{mul_comm, mul_assoc, mul-div_cancel'}
use Rattle.hopf_num.proofs.Ring.{*ℤ_assoc, +ℤ-*ℤ, *ℤ-pos_cancel}

-- two positive factors are one
factors : (a : ℤ) (x y : ℕ) → (a *ℤ pos x) *ℤ pos y ≡ a *ℤ pos (x * y)
factors a x y = sym (*ℤ_assoc a (pos x) (pos y)) ∙ ap (λ z. a *ℤ z) (pos-*ℤ-pos x y)

swapped : (a : ℤ) (x y : ℕ) → (a *ℤ pos x) *ℤ pos y ≡ (a *ℤ pos y) *ℤ pos x
swapped a x y = factors a x y ∙ ap (λ n. a *ℤ pos n) (mul_comm x y) ∙ sym (factors a y x)

-- a quotient of m by one denominator, times both, is m times the other
quotient-times : (m den other : ℕ) → den ∣ m → m / den * (den * other) ≡ other * m
quotient-times m den other divides =
    sym (mul_assoc (m / den) den other) ∙ ap (λ n. n * other) (mul_comm (m / den) den ∙ mul-div_cancel' den divides) ∙ mul_comm m other

-- the numerator over m, times both denominators, is the crosswise sum times m
crosswise : (a b : ℤ) (den other m : ℕ) → den ∣ m → other ∣ m →
    (a *ℤ pos (m / den) +ℤ b *ℤ pos (m / other)) *ℤ pos (den * other) ≡ (a *ℤ pos other +ℤ b *ℤ pos den) *ℤ pos m
crosswise a b den other m p q =
    let left : (a *ℤ pos (m / den)) *ℤ pos (den * other) ≡ (a *ℤ pos other) *ℤ pos m =
    factors a (m / den) (den * other) ∙ ap (λ n. a *ℤ pos n) (quotient-times m den other p) ∙ sym (factors a other m) in
    let right : (b *ℤ pos (m / other)) *ℤ pos (den * other) ≡ (b *ℤ pos den) *ℤ pos m =
    ap (λ n. (b *ℤ pos (m / other)) *ℤ pos n) (mul_comm den other) ∙ factors b (m / other) (other * den)
    ∙ ap (λ n. b *ℤ pos n) (quotient-times m other den q) ∙ sym (factors b den m) in
    +ℤ-*ℤ (a *ℤ pos (m / den)) (b *ℤ pos (m / other)) (pos (den * other))
    ∙ ap (λ z. z +ℤ (b *ℤ pos (m / other)) *ℤ pos (den * other)) left ∙ ap (λ z. (a *ℤ pos other) *ℤ pos m +ℤ z) right
    ∙ sym (+ℤ-*ℤ (a *ℤ pos other) (b *ℤ pos den) (pos m))

-- what is the numerator over m is the sum over the product of the denominators
pub ratio-sum : (a b num r : ℤ) (den other m r_den : ℕ) → 1 ≤ m → den ∣ m → other ∣ m →
    num ≡ a *ℤ pos (m / den) +ℤ b *ℤ pos (m / other) → r *ℤ pos m ≡ num *ℤ pos r_den →
    r *ℤ pos (den * other) ≡ (a *ℤ pos other +ℤ b *ℤ pos den) *ℤ pos r_den
ratio-sum a b num r den other m r_den positive p q value is =
    let sum : num *ℤ pos (den * other) ≡ (a *ℤ pos other +ℤ b *ℤ pos den) *ℤ pos m =
    ap (λ z. z *ℤ pos (den * other)) value ∙ crosswise a b den other m p q in
    *ℤ-pos_cancel _ _ m positive (swapped r (den * other) m ∙ ap (λ z. z *ℤ pos (den * other)) is ∙ swapped num r_den (den * other)
    ∙ ap (λ z. z *ℤ pos r_den) sum ∙ swapped (a *ℤ pos other +ℤ b *ℤ pos den) m r_den)
