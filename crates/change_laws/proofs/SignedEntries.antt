-- The inverse of the order of lists of bits: its entries are signs, by the numbers of bits that are set.
use Rattle.std.proofs.Common.{◌≡◌, ℕ, zero, suc, ◌-◌, ◌≤◌, if◌then◌else◌, Bool, true, false, List, [], ◌∷◌, length, refl, sym, ◌∙◌, ap, arith, unsigned_abs}
use Rattle.std.specs.Prelude.{neg_ℤ}
use Rattle.std.proofs.Math.IntN.{ℤ, pos, negsuc, ◌*ℤ◌, zero-*ℤ}
use Rattle.std.proofs.lemmas.Int.{ints}
use Rattle.realisations.specs.Lists.{one_if, with_sign}
use Rattle.basis_representatives.proofs.Bits.{composition_of}
use Rattle.basis_representatives.proofs.DescentBits.{length-composition_of}
use Rattle.basis_representatives.proofs.Places.{set_bits, pairwise, within}
use Rattle.change_laws.proofs.BitMatrices.{Matrix, entries}

-- (-1)^k where a test holds, else 0
abbrev pub sign_if : Bool → ℕ → ℤ
sign_if test k = if test then with_sign k (pos 1) else pos 0

-- a sign is 1 or -1
pub abs-with_sign : (k : ℕ) → unsigned_abs (with_sign k (pos 1)) ≡ 1
abs-with_sign zero = refl
abs-with_sign (suc k) = omega (arith, ints, abs-with_sign k)

-- so with a test it is at most 1
pub abs-sign_if : (t : Bool) (k : ℕ) → unsigned_abs (sign_if t k) ≤ 1
abs-sign_if true k = omega (arith, abs-with_sign k)
abs-sign_if false k = omega arith

-- 1 at equal bits, and -1 where the second alone is set: the inverse of the matrix of `within`
abbrev pub mobius : Matrix
mobius true true = pos 1
mobius true false = pos 0
mobius false true = negsuc 0
mobius false false = pos 1

-- without a sign it is 1 or 0
pub sign_if-zero : (t : Bool) → sign_if t 0 ≡ pos (one_if t)
sign_if-zero true = refl
sign_if-zero false = refl

-- bits within others are at most as many
fewer_bits : (a b : List Bool) → pairwise within a b ≡ true → set_bits a ≤ set_bits b
fewer_bits [] [] h = omega arith
fewer_bits [] (y ∷ b) h = absurd (cc)
fewer_bits (x ∷ a) [] h = absurd (cc)
fewer_bits (true ∷ a) (true ∷ b) h = omega (arith, fewer_bits a b h)
fewer_bits (true ∷ a) (false ∷ b) h = absurd (cc)
fewer_bits (false ∷ a) (true ∷ b) h = omega (arith, fewer_bits a b h)
fewer_bits (false ∷ a) (false ∷ b) h = omega (arith, fewer_bits a b h)

one_factor : (z : ℤ) → z ≡ pos 1 *ℤ z
one_factor z = omega (arith, ints)

minus_factor : (z : ℤ) → neg_ℤ z ≡ negsuc 0 *ℤ z
minus_factor z = omega (arith, ints)

-- bits within others, with a sign for each one past them
pub sign_if-within : (a b : List Bool) → sign_if (pairwise within a b) (set_bits b - set_bits a) ≡ entries mobius a b
sign_if-within [] [] = refl
sign_if-within [] (y ∷ b) = refl
sign_if-within (x ∷ a) [] = refl
sign_if-within (true ∷ a) (true ∷ b) =
    let e : suc (set_bits b) - suc (set_bits a) ≡ set_bits b - set_bits a = omega arith in
    ap (λ k. sign_if (pairwise within a b) k) e ∙ sign_if-within a b ∙ one_factor (entries mobius a b)
sign_if-within (true ∷ a) (false ∷ b) = sym (zero-*ℤ (entries mobius a b))
sign_if-within (false ∷ a) (true ∷ b) =
    by_test (pairwise within a b) refl ∙ ap neg_ℤ (sign_if-within a b) ∙ minus_factor (entries mobius a b)
  where
    by_test : (t : Bool) → pairwise within a b ≡ t → sign_if t (suc (set_bits b) - set_bits a) ≡ neg_ℤ (sign_if t (set_bits b - set_bits a))
    by_test true h =
        let fewer = fewer_bits a b h in
        let e : suc (set_bits b) - set_bits a ≡ suc (set_bits b - set_bits a) = omega arith in
        ap (λ k. with_sign k (pos 1)) e
    by_test false h = refl
sign_if-within (false ∷ a) (false ∷ b) = sign_if-within a b ∙ one_factor (entries mobius a b)

-- a difference of numbers of parts is one of numbers of bits
pub parts_past : (a b : List Bool) → length (composition_of b) - length (composition_of a) ≡ set_bits b - set_bits a
parts_past a b = omega (arith, length-composition_of a, length-composition_of b)
