use Rattle.std.proofs.Common.{arith}
use Rattle.basis_routes.proofs.Degrees.{degree-small}
use Rattle.basis_routes.proofs.conversions.test_room.Goals as goal

pub overflow_mul-need : goal.overflow_mul-need
overflow_mul-need c = omega (arith, c.degree.ensures.degree, degree-small c.args.value.now c.degree.ensures.value)

pub test-requires : goal.test-requires
test-requires c = omega (arith, c.degree.ensures.degree, degree-small c.args.value.now c.degree.ensures.value)
