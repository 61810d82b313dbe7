use Rattle.std.proofs.Common.{◌≤◌, max, [], ◌∙◌, ap, arith}
use Rattle.std.proofs.lemmas.List.Elements.{All-nil, All-cons}
use Rattle.basis_routes.specs.declared.checks.Check.TheVariants.{DegreeWithin}
use Rattle.basis_routes.specs.Checks.{Passes}
use Rattle.basis_routes.proofs.Degrees.{degree_within}
use Rattle.hopf_laws.specs.Bases.{least_limit}
use Rattle.hopf_laws.specs.Values.{degree_of_value}
use Rattle.hopf_ops.proofs.common.test_degree_of_sum.Goals as goal

pub returns-then-max-limit : goal.returns-then-max-limit
returns-then-max-limit c =
    let a = c.args.a.now in
    let b = c.args.b.now in
    let left = c.least_limit.ensures ∙ ap least_limit c.bases.ensures.bases in
    let right = c.least_limit-2.ensures ∙ ap least_limit c.bases-2.ensures.bases in
    let within : max (degree_of_value a) (degree_of_value b) ≤ c.args.limit =
    omega (arith, degree_within a c.bases.ensures.value, degree_within b c.bases-2.ensures.value, left, right, c.max.ensures, c.if-max-limit.true) in
    All-cons Passes (DegreeWithin (max (degree_of_value a) (degree_of_value b)) c.args.limit) [] within (All-nil Passes)
