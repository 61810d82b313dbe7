use Rattle.std.proofs.Common.{◌+◌, ◌++◌, [], ◌∷◌, length, arith, rules}
use Rattle.std.specs.Prelude.{All}
use Rattle.std.proofs.lemmas.Result.{err_from_is_err_and}
use Rattle.realisations.specs.Readings.{tensor}
use Rattle.hopf_laws.specs.Bases.{least_limit}
use Rattle.hopf_laws.specs.Values.{degree_of_value, reading_of}
use Rattle.basis_routes.specs.declared.checks.Check.TheVariants.{RankWithin, DegreeWithin}
use Rattle.basis_routes.specs.Checks.{Passes, IsRefusalOf}
use Rattle.basis_routes.specs.Rows.{Answers}
use Rattle.basis_routes.proofs.Degrees.{degree-small}
use Rattle.basis_routes.proofs.Rows.{refused_front, refused_back, tests_back}
use Rattle.hopf_ops.specs.Operations.{product_room, tensor_checks}
use Rattle.hopf_ops.proofs.RowsInSteps.{checks_refuse, tests_row}
use Rattle.hopf_ops.proofs.products.tensor.Goals as goal

pub overflow_add-degree : goal.overflow_add-degree
overflow_add-degree c =
    omega (arith, c.degree.ensures.degree, c.degree-2.ensures.degree, degree-small c.args.a.now c.degree.ensures.value, degree-small c.args.b.now c.degree-2.ensures.value)

-- the ranks refuse
pub returns-in_err-test : goal.returns-in_err-test
returns-in_err-test c =
    let p = err_from_is_err_and c.from_residual.result c.from_residual.ensures.1 in
    let a = c.args.a.now in
    let b = c.args.b.now in
    let ranks = RankWithin (length a.bases + length b.bases) ∷ [] in
    let degree = DegreeWithin (degree_of_value a + degree_of_value b) (least_limit (a.bases ++ b.bases)) ∷ [] in
    let refused : IsRefusalOf ranks c.in_err-test.field-0.0 = search rules in
    rw (p.1, p.2) (checks_refuse (tensor_checks a b) (Answers (a.bases ++ b.bases) (tensor (reading_of a) (reading_of b))) c.in_err-test.field-0.0
    (refused_front ranks (degree ++ product_room 0 a b) c.in_err-test.field-0.0 refused))

-- the degrees do
pub returns-in_err-test-2 : goal.returns-in_err-test-2
returns-in_err-test-2 c =
    let p = err_from_is_err_and c.from_residual-in_err-test-2.result c.from_residual-in_err-test-2.ensures.1 in
    let a = c.args.a.now in
    let b = c.args.b.now in
    let ranks = RankWithin (length a.bases + length b.bases) ∷ [] in
    let degree = DegreeWithin (degree_of_value a + degree_of_value b) (least_limit (a.bases ++ b.bases)) ∷ [] in
    let pass : All Passes ranks = search rules in
    let refused : IsRefusalOf degree c.in_err-test-2.field-0.0 = search rules in
    rw (p.1, p.2) (checks_refuse (tensor_checks a b) (Answers (a.bases ++ b.bases) (tensor (reading_of a) (reading_of b))) c.in_err-test-2.field-0.0
    (refused_back ranks (degree ++ product_room 0 a b) c.in_err-test-2.field-0.0 pass (refused_front degree (product_room 0 a b) c.in_err-test-2.field-0.0 refused)))

-- both pass
pub returns : goal.returns
returns c =
    let a = c.args.a.now in
    let b = c.args.b.now in
    let first = RankWithin (length a.bases + length b.bases) ∷ DegreeWithin (degree_of_value a + degree_of_value b) (least_limit (a.bases ++ b.bases)) ∷ [] in
    let pass : All Passes first = search rules in
    tests_row (tensor_checks a b) (a.bases ++ b.bases) (tensor (reading_of a) (reading_of b)) c.tensor_over.result
    (tests_back first (product_room 0 a b) c.tensor_over.result pass c.tensor_over.ensures.checks) c.tensor_over.ensures.value
