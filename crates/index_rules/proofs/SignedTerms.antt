-- Signs, and the terms of a sum with signs.
use Rattle.std.proofs.Common.{◌≡◌, ℕ, zero, suc, ◌+◌, ◌%◌, ◌/◌, ◌<◌, List, [], ◌∷◌, length, refl, sym, ◌∙◌, ap, arith}
use Rattle.std.proofs.Math.IntN.{ℤ, pos, neg_ℤ}
use Rattle.std.proofs.lemmas.Int.{ints}
use Rattle.std.proofs.lemmas.List.{get_or-map, length-map}
use Rattle.std.specs.Prelude.{slice_index_or}
use Rattle.change_laws.specs.Changes.{signed_terms}
use Rattle.realisations.specs.Codes.{Code, Key}
use Rattle.realisations.specs.Combinations.{term_at}
use Rattle.realisations.specs.Lists.{with_sign}

-- an even number of signs is none
with_sign-double : (m : ℕ) (z : ℤ) → with_sign (m + m) z ≡ z
with_sign-double zero z = refl
with_sign-double (suc m) z =
    let e : suc m + suc m ≡ suc (suc (m + m)) = omega arith in
    ap (λ k. with_sign k z) e ∙ omega (arith, ints, with_sign-double m z)

pub sign-even : (k : ℕ) → k % 2 ≡ 0 → pos 1 ≡ with_sign k (pos 1)
sign-even k even =
    let e : k ≡ k / 2 + k / 2 = omega arith in
    sym (ap (λ n. with_sign n (pos 1)) e ∙ with_sign-double (k / 2) (pos 1))

pub sign-odd : (k : ℕ) → k % 2 ≡ 1 → neg_ℤ (pos 1) ≡ with_sign k (pos 1)
sign-odd k odd =
    let e : k ≡ suc (k / 2 + k / 2) = omega arith in
    sym (ap (λ n. with_sign n (pos 1)) e ∙ ap neg_ℤ (with_sign-double (k / 2) (pos 1)))

-- the term at a place
pub term_at-signed : (signs : Code → ℕ) (codes : List Code) (i : ℕ) → i < length codes
    → term_at (signed_terms signs codes) i ≡ (with_sign (signs (slice_index_or codes i [])) (pos 1), slice_index_or codes i [] ∷ [])
term_at-signed signs codes i lt = get_or-map (λ code. (with_sign (signs code) (pos 1), code ∷ [])) codes i [] (pos 0, []) lt

pub length-signed : (signs : Code → ℕ) (codes : List Code) → length (signed_terms signs codes) ≡ length codes
length-signed signs codes = length-map {B = ℤ × Key} codes (λ code. (with_sign (signs code) (pos 1), code ∷ []))
