use Rattle.std.proofs.Common.{ℕ, ◌/◌, ◌≤◌, ◌↔◌, arith, refl}
use Rattle.std.proofs.Math.Nat.{pos_of_dvd_of_pos}
use Rattle.std.specs.Int.{IsGcd}
use Rattle.hopf_num.specs.Room.{HasRoom, ProductFits}
use Rattle.hopf_num.specs.declared.room.Need.TheVariants.{CommonDenominator}
use Rattle.hopf_num.proofs.CommonDivisors.{IsLcm-quotient, common_room}
use Rattle.hopf_num.proofs.divisors.lcm.Goals as goal

-- the multiple has room exactly where some common multiple has
multiple_room : (a b g : ℕ) → 1 ≤ a → 1 ≤ b → IsGcd a b g → ProductFits (a / g) b 0 ↔ HasRoom (CommonDenominator a b)
multiple_room a b g some_a some_b is =
    let room = common_room a b _ some_a some_b (IsLcm-quotient a b g some_a some_b is) in
    (λ h. room.0 (omega (arith, h)), λ h. omega (arith, room.1 h))

pub nonzero_div-part : goal.nonzero_div-part
nonzero_div-part c = pos_of_dvd_of_pos c.gcd.ensures.0 c.requires.left

pub returns-then-fits-clause-least : goal.returns-then-fits-clause-least
returns-then-fits-clause-least c = IsLcm-quotient _ _ _ c.requires.left c.requires.right c.gcd.ensures

pub returns-then-fits-clause-room : goal.returns-then-fits-clause-room
returns-then-fits-clause-room c =
    let room = multiple_room _ _ _ c.requires.left c.requires.right c.gcd.ensures in
    (λ e. room.0 (c.fits.ensures.0 c.if-fits.true), λ h. refl)

pub returns-else-fits-clause-room : goal.returns-else-fits-clause-room
returns-else-fits-clause-room c =
    let room = multiple_room _ _ _ c.requires.left c.requires.right c.gcd.ensures in
    (λ e. absurd (cc), λ h. let fitting = c.fits.ensures.1 (room.1 h) in let not = c.if-fits.false in cc)
