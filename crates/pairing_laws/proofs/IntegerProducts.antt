-- Products of integers, and signs of products.
use Rattle.std.proofs.Common.{◌≡◌, ℕ, zero, suc, ◌+◌, sym, ◌∙◌, ap, arith}
use Rattle.std.proofs.Math.IntN.{ℤ, pos, neg_ℤ, ◌*ℤ◌, *ℤ_comm, *ℤ-one, one}
use Rattle.hopf_num.proofs.Ring.{*ℤ_assoc, *ℤ-neg_ℤ}
use Rattle.realisations.specs.Lists.{with_sign}

-- a factor 1
pub one_times : (z : ℤ) → pos 1 *ℤ z ≡ z
unfolding one
one_times z = *ℤ_comm (pos 1) z ∙ *ℤ-one z

-- a negative factor
pub neg-times : (x y : ℤ) → neg_ℤ x *ℤ y ≡ neg_ℤ (x *ℤ y)
neg-times x y = *ℤ_comm (neg_ℤ x) y ∙ *ℤ-neg_ℤ y x ∙ ap neg_ℤ (*ℤ_comm y x)

-- the middle factors change places
pub four_factors : (a b c d : ℤ) → (a *ℤ b) *ℤ (c *ℤ d) ≡ (a *ℤ c) *ℤ (b *ℤ d)
four_factors a b c d =
    sym (*ℤ_assoc a b (c *ℤ d)) ∙ ap (λ z. a *ℤ z) (*ℤ_assoc b c d ∙ ap (λ z. z *ℤ d) (*ℤ_comm b c) ∙ sym (*ℤ_assoc c b d)) ∙ *ℤ_assoc a c (b *ℤ d)

-- one sign after the other
pub with_sign-plus : (k l : ℕ) (z : ℤ) → with_sign (k + l) z ≡ with_sign k (with_sign l z)
with_sign-plus zero l z = let none : 0 + l ≡ l = omega arith in ap (λ m. with_sign m z) none
with_sign-plus (suc k) l z = let more : suc k + l ≡ suc (k + l) = omega arith in ap (λ m. with_sign m z) more ∙ ap neg_ℤ (with_sign-plus k l z)
