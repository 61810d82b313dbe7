use Rattle.std.proofs.Common.{arith}
use Rattle.basis_routes.proofs.Degrees.{degree-small}
use Rattle.hopf_ops.proofs.components.test_linear.Goals as goal

pub overflow_mul-degree : goal.overflow_mul-degree
overflow_mul-degree c = omega (arith, c.degree.ensures.degree, degree-small c.args.a.now c.degree.ensures.value)

pub test-requires : goal.test-requires
test-requires c = omega (arith, c.degree.ensures.degree, degree-small c.args.a.now c.degree.ensures.value)
