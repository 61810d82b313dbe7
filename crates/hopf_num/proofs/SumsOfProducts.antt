-- The sum of two signed products whose absolute values have room together.
use Rattle.std.proofs.Common.{◌≡◌, ℕ, ◌+◌, ◌*◌, ◌^◌, ◌<◌, ◌≤◌, ℤ, pos, ◌+ℤ◌, ◌*ℤ◌, unsigned_abs, FitsSigned, arith}
use Rattle.std.specs.Int.{w128}
use Rattle.std.proofs.lemmas.Int.{ints, unsigned_abs-mul, fits_signed_from_abs}

pub abs_sum : (a b : ℤ) → unsigned_abs (a +ℤ b) ≤ unsigned_abs a + unsigned_abs b
abs_sum a b = grind (arith, ints)

pub record HaveRoom (left right : ℤ) : Type 0 where
  pub left_fits : FitsSigned w128 left
  pub right_fits : FitsSigned w128 right
  pub sum_fits : FitsSigned w128 (left +ℤ right)
  pub small : unsigned_abs (left +ℤ right) < 2 ^ 127

pub products_have_room : (left right : ℤ) (a b : ℕ) → unsigned_abs left * a + unsigned_abs right * b < 2 ^ 127
    → HaveRoom (left *ℤ pos a) (right *ℤ pos b)
products_have_room left right a b room =
    let x : unsigned_abs (left *ℤ pos a) ≡ unsigned_abs left * a = unsigned_abs-mul left (pos a) in
    let y : unsigned_abs (right *ℤ pos b) ≡ unsigned_abs right * b = unsigned_abs-mul right (pos b) in
    let sum = abs_sum (left *ℤ pos a) (right *ℤ pos b) in
    let small : unsigned_abs (left *ℤ pos a +ℤ right *ℤ pos b) < 2 ^ 127 = omega (arith, x, y, sum, room) in
    record {
      left_fits = fits_signed_from_abs w128 _ (omega (arith, x, room));
      right_fits = fits_signed_from_abs w128 _ (omega (arith, y, room));
      sum_fits = fits_signed_from_abs w128 _ small;
      small = small;
    }
