use Rattle.std.proofs.Common.{◌≡◌, ◌≤◌, ◌⊎◌, ◌++◌, length, rules}
use Rattle.realisations.specs.Readings.{tensor}
use Rattle.hopf_laws.specs.Values.{IsValue, reading_of}
use Rattle.hopf_ops.specs.Operations.{product_room}
use Rattle.hopf_ops.proofs.ProductsOfOperands.{component_row, scalar_row}
use Rattle.hopf_ops.proofs.RowsInSteps.{tests_row}
use Rattle.hopf_ops.proofs.TensorsOfValues.{scalar_within}
use Rattle.hopf_ops.proofs.products.times.Goals as goal

pub tensor_over-requires-clause-degree : goal.tensor_over-requires-clause-degree
tensor_over-requires-clause-degree c =
    let left : IsValue c.args.a.now = search rules in
    let right : IsValue c.args.b.now = search rules in
    let scalar : (length c.args.a.now.bases ≡ 0) ⊎ (length c.args.b.now.bases ≡ 0) = search rules in
    scalar_within c.args.a.now c.args.b.now left right scalar

-- with a scalar
pub returns-then-rank-eq0 : goal.returns-then-rank-eq0
returns-then-rank-eq0 c =
    let a = c.args.a.now in
    let b = c.args.b.now in
    let scalar : (length a.bases ≡ 0) ⊎ (length b.bases ≡ 0) = search rules in
    scalar_row a b c.tensor_over.result scalar
    (tests_row (product_room 0 a b) (a.bases ++ b.bases) (tensor (reading_of a) (reading_of b)) c.tensor_over.result c.tensor_over.ensures.checks c.tensor_over.ensures.value)

-- component by component
pub returns : goal.returns
returns c =
    let a = c.args.a.now in
    let b = c.args.b.now in
    let left : 1 ≤ length a.bases = search rules in
    let right : 1 ≤ length b.bases = search rules in
    component_row a b c.product_by_components.result left right c.product_by_components.ensures
