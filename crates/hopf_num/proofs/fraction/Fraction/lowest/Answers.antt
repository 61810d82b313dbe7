use Rattle.std.proofs.Common.{◌≡◌, ◌^◌, ◌<◌, ◌≤◌, ℕ, ℤ, pos, int_div, unsigned_abs, arith, ap, ◌∙◌, subst, FitsSigned, to_z, of_z}
use Rattle.std.specs.Int.{IsGcd, w128}
use Rattle.std.proofs.lemmas.Int.{ints, to_z-of_z, to_z_pos}
use Rattle.std.proofs.lemmas.Nat.Gcd.{le_of_dvd}
use Rattle.hopf_num.proofs.LowestTerms.{gcd-positive, IsFraction-quotients, ratio-quotients}
use Rattle.hopf_num.proofs.fraction.Fraction.lowest.Goals as goal

common_small : (n den g : ℕ) → 1 ≤ den → den < 2 ^ 127 → IsGcd n den g → g < 2 ^ 127
common_small n den g positive small is =
    let below : g ≤ den = le_of_dvd positive is.1 in omega (arith, below, small)

-- what the machine's conversions read as
is_gcd : (num : ℤ) (size den g : ℕ) → FitsSigned w128 num → size ≡ unsigned_abs (to_z w128 (of_z w128 num)) → IsGcd size den g → IsGcd (unsigned_abs num) den g
is_gcd num size den g fits value is = subst (λ n. IsGcd n den g) (value ∙ ap unsigned_abs (to_z-of_z w128 num fits)) is

is_quotient : (num q : ℤ) (g : ℕ) → FitsSigned w128 num → FitsSigned w128 q → g < 2 ^ 127 →
    q ≡ int_div (to_z w128 (of_z w128 num)) (to_z w128 g) → to_z w128 (of_z w128 q) ≡ int_div num (pos g)
is_quotient num q g fits q_fits small value =
    to_z-of_z w128 q q_fits ∙ value ∙ ap (λ z. int_div z (to_z w128 g)) (to_z-of_z w128 num fits) ∙ ap (λ z. int_div num z) (to_z_pos w128 g small)

pub overflow_cast-common : goal.overflow_cast-common
overflow_cast-common c = record { sfits = common_small _ _ _ c.requires.positive c.requires.small c.gcd-common.ensures }

pub quotient-requires-clause-positive : goal.quotient-requires-clause-positive
quotient-requires-clause-positive c =
    let small = common_small _ _ _ c.requires.positive c.requires.small c.gcd-common.ensures in
    let positive = gcd-positive _ _ _ c.requires.positive c.gcd-common.ensures in
    rw (to_z_pos w128 c.gcd-common.result small) (omega (arith, ints, positive))

pub nonzero_div-result : goal.nonzero_div-result
nonzero_div-result c = gcd-positive _ _ _ c.requires.positive c.gcd-common.ensures

pub invariant_of-result : goal.invariant_of-result
invariant_of-result c =
    let small = common_small _ _ _ c.requires.positive c.requires.small c.gcd-common.ensures in
    let is = is_gcd c.args.num _ c.args.den _ c.ranges.num c.unsigned_abs.ensures.value c.gcd-common.ensures in
    rw (is_quotient c.args.num c.quotient.result c.gcd-common.result c.ranges.num (record { sfits = c.quotient.type_inv }) small c.quotient.ensures)
    (IsFraction-quotients c.args.num c.args.den _ c.requires.num c.requires.positive c.requires.small is)

pub returns-clause-value : goal.returns-clause-value
returns-clause-value c =
    let small = common_small _ _ _ c.requires.positive c.requires.small c.gcd-common.ensures in
    let is = is_gcd c.args.num _ c.args.den _ c.ranges.num c.unsigned_abs.ensures.value c.gcd-common.ensures in
    rw (is_quotient c.args.num c.quotient.result c.gcd-common.result c.ranges.num (record { sfits = c.quotient.type_inv }) small c.quotient.ensures)
    (ratio-quotients c.args.num c.args.den _ is)

pub returns-clause-lowest : goal.returns-clause-lowest
returns-clause-lowest c =
    let small = common_small _ _ _ c.requires.positive c.requires.small c.gcd-common.ensures in
    let is = is_gcd c.args.num _ c.args.den _ c.ranges.num c.unsigned_abs.ensures.value c.gcd-common.ensures in
    rw (is_quotient c.args.num c.quotient.result c.gcd-common.result c.ranges.num (record { sfits = c.quotient.type_inv }) small c.quotient.ensures)
    (IsFraction-quotients c.args.num c.args.den _ c.requires.num c.requires.positive c.requires.small is)
