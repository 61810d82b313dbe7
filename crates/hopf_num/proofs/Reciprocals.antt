-- Reciprocals of ratios that are the same as fractions.
use Rattle.std.proofs.Common.{◌≡◌, ◌≢◌, ℕ, suc, ◌*◌, ◌≤◌, ℤ, pos, negsuc, neg_ℤ, ◌*ℤ◌, unsigned_abs, sym, ap, ◌∙◌, arith}
use Rattle.std.proofs.Math.IntN.{*ℤ_comm, zero-*ℤ, pos-*ℤ-pos, negsuc-*ℤ-pos}
use Rattle.std.proofs.Math.Nat.{le-mul_of_pos_right}
use Rattle.std.proofs.lemmas.Int.{ints}
use Rattle.hopf_num.specs.Fractions.{Ratio, with_sign_of, reciprocal}
use Rattle.hopf_num.proofs.Ring.{*ℤ-neg_ℤ, *ℤ-pos_cancel}

-- a negative number times a positive one
neg-times : (x m : ℕ) → neg_ℤ (pos x) *ℤ pos m ≡ neg_ℤ (pos (x * m))
neg-times x m = *ℤ_comm (neg_ℤ (pos x)) (pos m) ∙ *ℤ-neg_ℤ (pos m) (pos x) ∙ ap neg_ℤ (*ℤ_comm (pos m) (pos x) ∙ pos-*ℤ-pos x m)

-- a over x and b over y are the same, so x over a and y over b are
turned : (a b : ℤ) (x y : ℕ) → 1 ≤ x → 1 ≤ y → a *ℤ pos y ≡ b *ℤ pos x → with_sign_of a x *ℤ pos (unsigned_abs b) ≡ with_sign_of b y *ℤ pos (unsigned_abs a)
turned (pos n) (pos m) x y left right same = omega (arith, ints, same, pos-*ℤ-pos n y, pos-*ℤ-pos m x, pos-*ℤ-pos x m, pos-*ℤ-pos y n)
turned (pos n) (negsuc m) x y left right same =
    absurd (omega (arith, ints, same, pos-*ℤ-pos n y, negsuc-*ℤ-pos m x, le-mul_of_pos_right {m = x} (suc m) (omega arith)))
turned (negsuc n) (pos m) x y left right same =
    absurd (omega (arith, ints, same, negsuc-*ℤ-pos n y, pos-*ℤ-pos m x, le-mul_of_pos_right {m = y} (suc n) (omega arith)))
turned (negsuc n) (negsuc m) x y left right same =
    omega (arith, ints, same, negsuc-*ℤ-pos n y, negsuc-*ℤ-pos m x, neg-times x (suc m), neg-times y (suc n))

-- ratios that are the same have the same reciprocals
pub reciprocal_agrees : (r s : Ratio) → 1 ≤ r.den → 1 ≤ s.den → r.num *ℤ pos s.den ≡ s.num *ℤ pos r.den
    → (reciprocal r).num *ℤ pos (reciprocal s).den ≡ (reciprocal s).num *ℤ pos (reciprocal r).den
reciprocal_agrees r s left right same = turned r.num s.num r.den s.den left right same

-- and where one is not 0, the other is not
pub ratio_nonzero : (r s : Ratio) → 1 ≤ r.den → 1 ≤ s.den → r.num *ℤ pos s.den ≡ s.num *ℤ pos r.den → r.num ≢ pos 0 → s.num ≢ pos 0
ratio_nonzero r s left right same some = λ none.
    some (*ℤ-pos_cancel r.num (pos 0) s.den right (same ∙ ap (λ z. z *ℤ pos r.den) none ∙ zero-*ℤ (pos r.den) ∙ sym (zero-*ℤ (pos s.den))))
