use Rattle.std.proofs.Common.{◌≡◌, ◌<◌, ◌≤◌, ◌+◌, ◌-◌, IsTrue, Ok, length, drop, get_or, sym, ◌∙◌, ap, subst, arith}
use Rattle.std.proofs.lemmas.Result.{err_from_is_err_and}
use Rattle.hopf_laws.specs.Values.{degree_of_value}
use Rattle.realisations.specs.Bases.{lies_in}
use Rattle.basis_names.specs.Bases.{algebra_of, limit_of}
use Rattle.basis_routes.specs.Conversions.{ConvertsAt, ConvertsFrom}
use Rattle.basis_routes.specs.Rows.{OrMemory}
use Rattle.basis_routes.proofs.ContainedBases.{inside_at, lies_length}
use Rattle.basis_routes.proofs.ConversionSteps.{built_at, limit_at, brought_inside, brought_degree, converts_one_more, converts_ends}
use Rattle.basis_routes.proofs.SteppedRows.{value_told, refused}
use Rattle.basis_routes.proofs.conversions.converted_from.Goals as goal

pub brought-requires-clause-built : goal.brought-requires-clause-built
brought-requires-clause-built c =
    let n = c.loop-at.at in
    let targets = c.args.targets.now in
    let to = c.at-to.result in
    let place : n + 1 - 1 ≡ n = omega arith in
    let is : to ≡ get_or targets n to = c.at-to.ensures ∙ ap (λ k. get_or targets k to) place in
    let within : n < length targets = omega (arith, c.loop-at-test.true, c.len-at-end.ensures.value) in
    built_at n targets to c.requires.built within is

pub brought-requires-clause-last : goal.brought-requires-clause-last
brought-requires-clause-last c =
    omega (arith, lies_length c.loop-at.now.bases c.args.targets.now c.loop-at.invariant.inside, c.loop-at-test.true, c.len-at-end.ensures.value)

pub brought-requires-clause-inside : goal.brought-requires-clause-inside
brought-requires-clause-inside c =
    let n = c.loop-at.at in
    let targets = c.args.targets.now in
    let to = c.at-to.result in
    let place : n + 1 - 1 ≡ n = omega arith in
    let is : to ≡ get_or targets n to = c.at-to.ensures ∙ ap (λ k. get_or targets k to) place in
    let within : n < length targets = omega (arith, c.loop-at-test.true, c.len-at-end.ensures.value) in
    subst (λ k. IsTrue (lies_in (algebra_of (get_or c.loop-at.now.bases k to)) (algebra_of to))) (sym place)
    (inside_at n c.loop-at.now.bases targets to c.loop-at.invariant.inside within is)

pub brought-requires-clause-degree : goal.brought-requires-clause-degree
brought-requires-clause-degree c =
    let n = c.loop-at.at in
    let targets = c.args.targets.now in
    let to = c.at-to.result in
    let place : n + 1 - 1 ≡ n = omega arith in
    let is : to ≡ get_or targets n to = c.at-to.ensures ∙ ap (λ k. get_or targets k to) place in
    let within : n < length targets = omega (arith, c.loop-at-test.true, c.len-at-end.ensures.value) in
    limit_at n targets to (degree_of_value c.loop-at.now) c.loop-at.invariant.degree within is

-- one more component
pub loop-at-preserved : goal.loop-at-preserved
loop-at-preserved c =
    let n = c.loop-at.at in
    let targets = c.args.targets.now in
    let to = c.at-to.result in
    let now = c.loop-at.now in
    let next = c.in_ok-next.next in
    let place : n + 1 - 1 ≡ n = omega arith in
    let is : to ≡ get_or targets n to = c.at-to.ensures ∙ ap (λ k. get_or targets k to) place in
    let within : n < length targets = omega (arith, c.loop-at-test.true, c.len-at-end.ensures.value) in
    let here : n < length now.bases = omega (arith, within, lies_length now.bases targets c.loop-at.invariant.inside) in
    let inside : IsTrue (lies_in (algebra_of (get_or now.bases n to)) (algebra_of to)) = inside_at n now.bases targets to c.loop-at.invariant.inside within is in
    let row : OrMemory (ConvertsAt n to now) (Ok next) = subst (λ k. OrMemory (ConvertsAt k to now) (Ok next)) place c.in_ok-next.ensures.row in
    let step : ConvertsAt n to now (Ok next) = value_told (ConvertsAt n to now) next row in
    let small : degree_of_value now ≤ limit_of (algebra_of to) = limit_at n targets to (degree_of_value now) c.loop-at.invariant.degree within is in
    let less = brought_degree n to now next c.in_ok-next.ensures.valid here step inside (built_at n targets to c.requires.built within is) small in
    record {
      inside = brought_inside n to now next c.in_ok-next.ensures.valid here step targets c.loop-at.invariant.inside within is;
      degree = omega (arith, less, c.loop-at.invariant.degree);
      left = λ answer later. c.loop-at.invariant.left answer (converts_one_more targets n to now next within is step answer later);
    }

-- a conversion is refused
pub returns-in_err-next : goal.returns-in_err-next
returns-in_err-next c =
    let n = c.loop-at.at in
    let targets = c.args.targets.now in
    let to = c.at-to.result in
    let now = c.loop-at.now in
    let r = c.in_err-next.field-0.0 in
    let place : n + 1 - 1 ≡ n = omega arith in
    let is : to ≡ get_or targets n to = c.at-to.ensures ∙ ap (λ k. get_or targets k to) place in
    let within : n < length targets = omega (arith, c.loop-at-test.true, c.len-at-end.ensures.value) in
    let row : OrMemory (ConvertsAt n to now) (refused r) = subst (λ k. OrMemory (ConvertsAt k to now) (refused r)) place c.in_err-next.ensures.row in
    let p = err_from_is_err_and c.from_residual.result c.from_residual.ensures.1 in
    rw (p.1, p.2) (converts_ends targets n to (ConvertsFrom c.args.first (drop c.args.first targets) c.args.value) now r within is c.loop-at.invariant.left row)
