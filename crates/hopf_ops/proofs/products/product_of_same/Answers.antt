use Rattle.std.proofs.Common.{arith}
use Rattle.basis_routes.proofs.Degrees.{degree-small}
use Rattle.hopf_ops.proofs.products.product_of_same.Goals as goal

pub overflow_add-degree : goal.overflow_add-degree
overflow_add-degree c =
    omega (arith, c.degree.ensures.degree, c.degree-2.ensures.degree, degree-small c.args.a.now c.degree.ensures.value, degree-small c.args.b.now c.degree-2.ensures.value)

pub overflow_mul-degree : goal.overflow_mul-degree
overflow_mul-degree c =
    omega (arith, c.degree.ensures.degree, c.degree-2.ensures.degree, degree-small c.args.a.now c.degree.ensures.value, degree-small c.args.b.now c.degree-2.ensures.value)

pub test_room-requires : goal.test_room-requires
test_room-requires c =
    omega (arith, c.degree.ensures.degree, c.degree-2.ensures.degree, degree-small c.args.a.now c.degree.ensures.value, degree-small c.args.b.now c.degree-2.ensures.value)
