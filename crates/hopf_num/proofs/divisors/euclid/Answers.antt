use Rattle.std.proofs.Common.{◌≡◌, ap, ℤ, suc, zero, pos, negsuc, arith, refl}
use Rattle.std.specs.Prelude.{◌≤ℤ◌, ◌<ℤ◌, int_rem, ◌%◌, unsigned_abs}
use Rattle.std.proofs.lemmas.Int.{ints, rem_below}
use Rattle.std.proofs.lemmas.Nat.Gcd.{IsGcd-from_zero, IsGcd-from_mod}
use Rattle.num_traits.proofs.Fits.{rem-fits}
use Rattle.hopf_num.proofs.divisors.euclid.Goals as goal

above_zero : (z : ℤ) → pos 0 ≤ℤ z → (z ≡ pos 0 → ⊥) → pos 0 <ℤ z
above_zero (pos zero) up other = absurd (other refl)
above_zero (pos (suc n)) up other = omega (arith, ints)
above_zero (negsuc n) up other = absurd (omega (arith, ints))

rem-natural : (x y : ℤ) → pos 0 ≤ℤ x → unsigned_abs (int_rem x y) ≡ unsigned_abs x % unsigned_abs y
rem-natural (pos n) y up = refl
rem-natural (negsuc n) y up = absurd (omega (arith, ints))

pub steps-init : goal.steps-init
steps-init g c = (c.requires.a, c.requires.b, λ d is. is)

pub rem-rest-requires : goal.rem-rest-requires
rem-rest-requires g c =
    let exact = g.met.T.Integral.exact_law in
    let up = g.met.T.Unsigned.unsigned_law c.steps.y in
    let big = above_zero _ up (λ h. cc (rw c.steps-test.true at ((c.is_zero.ensures.value exact).1 h))) in
    g.met.T.Num.can_rem_law c.steps.x c.steps.y (λ e. g.met.T.Num.positive_divisor_law _ _ e c.steps.invariant.0 c.steps.invariant.1 big)

pub steps-smaller : goal.steps-smaller
steps-smaller g c =
    let exact = g.met.T.Integral.exact_law in
    let up = g.met.T.Unsigned.unsigned_law c.steps.y in
    let big = above_zero _ up (λ h. cc (rw c.steps-test.true at ((c.is_zero.ensures.value exact).1 h))) in
    let is = g.met.T.Num.rem_law _ _ _ c.rem-rest.ensures exact in
    rw is (rem_below (g.T.Number.value c.steps.x) (g.T.Number.value c.steps.y) (omega (arith, ints)))

pub steps-preserved : goal.steps-preserved
steps-preserved g c =
    let exact = g.met.T.Integral.exact_law in
    let is = g.met.T.Num.rem_law _ _ _ c.rem-rest.ensures exact in
    let low = g.met.T.FixedWidth.small_fits_law 0 (omega arith) in
    let up = g.met.T.Unsigned.unsigned_law c.steps.x in
    let natural = rem-natural (g.T.Number.value c.steps.x) (g.T.Number.value c.steps.y) up in (
      c.steps.invariant.1,
      rw is (rem-fits g.T.Number.fits (λ x y z. g.T.Number.between_law x y z exact) (g.T.Number.value c.steps.x) (g.T.Number.value c.steps.y) low c.steps.invariant.0 up),
      λ d h. c.steps.invariant.2 d (IsGcd-from_mod _ _ d (rw (is, natural) at h)),
    )

pub returns : goal.returns
returns g c =
    let exact = g.met.T.Integral.exact_law in
    let zero = (c.is_zero.ensures.value exact).0 (cc) in
    c.steps.invariant.2 _ (IsGcd-from_zero _ _ (ap unsigned_abs zero))
