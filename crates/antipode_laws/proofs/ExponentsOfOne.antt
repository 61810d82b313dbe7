-- The monomial 1, whose exponents are all 0, and degrees of monomials.
use Rattle.std.proofs.Common.{◌≡◌, ℕ, zero, suc, ◌+◌, ◌<◌, true, false, List, [], ◌∷◌, ◌++◌, refl, ◌∙◌, ap, arith}
use Rattle.std.specs.Prelude.{nat_eq, ◌&&◌}
use Rattle.std.specs.List.{sum}
use Rattle.std.proofs.lemmas.List.{append-nil}
use Rattle.std.proofs.lemmas.Bool.Decides.{nat_tests}
use Rattle.realisations.specs.Exponents.{is_one, without_zeros}
use Rattle.coproduct_rules.proofs.DegreeCuts.{sum-first}

-- the degree of two monomials, one after the other
pub sum-append : (u v : List ℕ) → sum (u ++ v) ≡ sum u + sum v
sum-append [] v = omega arith
sum-append (x ∷ u) v = omega (arith, sum-first x (u ++ v), sum-first x u, sum-append u v)

-- a monomial with a positive exponent is not 1
pub is_one-suc : (n : ℕ) (p : List ℕ) → is_one (suc n ∷ p) ≡ false
is_one-suc n p =
    let no : nat_eq (suc n) 0 ≡ false = grind (arith, nat_tests) in
    ap (λ b. b && is_one p) no

-- a monomial other than 1 has a positive degree
pub is_one-degree : (p : List ℕ) → is_one p ≡ false → 0 < sum p
is_one-degree [] e = absurd (cc)
is_one-degree (zero ∷ p) e = omega (arith, sum-first 0 p, is_one-degree p e)
is_one-degree (suc n ∷ p) e = omega (arith, sum-first (suc n) p)

-- 1 has degree 0
pub degree-one : (p : List ℕ) → is_one p ≡ true → sum p ≡ 0
degree-one [] e = refl
degree-one (zero ∷ p) e = omega (arith, sum-first 0 p, degree-one p e)
degree-one (suc n ∷ p) e = let no : is_one (suc n ∷ p) ≡ false = is_one-suc n p in absurd (cc)

-- nothing is left of 1 without its zeros
pub without_zeros-one : (p : List ℕ) → is_one p ≡ true → without_zeros p ≡ []
without_zeros-one [] e = refl
without_zeros-one (zero ∷ p) e = without_zeros-one p e
without_zeros-one (suc n ∷ p) e = let no : is_one (suc n ∷ p) ≡ false = is_one-suc n p in absurd (cc)

-- zeros are left out on both sides
pub without_zeros-append : (u v : List ℕ) → without_zeros (u ++ v) ≡ without_zeros u ++ without_zeros v
without_zeros-append [] v = refl
without_zeros-append (zero ∷ u) v = without_zeros-append u v
without_zeros-append (suc n ∷ u) v = ap (λ w. suc n ∷ w) (without_zeros-append u v)

-- 1 before a monomial is not seen once zeros are left out
pub without_zeros-one_first : (z p : List ℕ) → is_one z ≡ true → without_zeros (z ++ p) ≡ without_zeros p
without_zeros-one_first z p e = without_zeros-append z p ∙ ap (λ w. w ++ without_zeros p) (without_zeros-one z e)

-- nor is 1 behind it
pub without_zeros-one_last : (p z : List ℕ) → is_one z ≡ true → without_zeros (p ++ z) ≡ without_zeros p
without_zeros-one_last p z e =
    without_zeros-append p z ∙ ap (λ w. without_zeros p ++ w) (without_zeros-one z e) ∙ append-nil (without_zeros p)
