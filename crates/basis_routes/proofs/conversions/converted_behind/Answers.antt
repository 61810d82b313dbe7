use Rattle.std.proofs.Common.{◌≡◌, ◌≢◌, ◌<◌, ◌+◌, ◌-◌, length, drop, get_or, sym, ◌∙◌, arith}
use Rattle.std.proofs.lemmas.Result.{err_from_is_err_and}
use Rattle.hopf_laws.specs.Values.{degree_of_value}
use Rattle.basis_routes.specs.Conversions.{ConvertsAt, ConvertsFrom}
use Rattle.basis_routes.proofs.ContainedBases.{inside_at, lies_length}
use Rattle.basis_routes.proofs.ConversionSteps.{built_at, limit_at, brought_inside, brought_degree, changed_step, converts_behind, converts_ends}
use Rattle.basis_routes.proofs.SteppedRows.{value_told, refused}
use Rattle.basis_routes.proofs.ValueRows.{told}
use Rattle.basis_routes.proofs.conversions.converted_behind.Goals as goal

pub at-to-requires-clause-last : goal.at-to-requires-clause-last
at-to-requires-clause-last c = omega (arith, lies_length c.args.value.now.bases c.args.targets.now c.requires.inside, c.requires.last)

pub changed_with_room-requires-clause-change : goal.changed_with_room-requires-clause-change
changed_with_room-requires-clause-change c =
    let n = c.args.component - 1 in
    let v = c.args.value.now in
    let targets = c.args.targets.now in
    let to = c.at-to.result in
    let here : n < length v.bases = omega (arith, c.requires.first, c.requires.last) in
    let within : n < length targets = omega (arith, here, lies_length v.bases targets c.requires.inside) in
    record {
      here = here;
      built = built_at n targets to c.requires.built within c.at-to.ensures;
      inside = inside_at n v.bases targets to c.requires.inside within c.at-to.ensures;
      different = λ same. c.requires.different to (same ∙ c.at-to.ensures);
      degree = limit_at n targets to (degree_of_value v) c.requires.degree within c.at-to.ensures;
    }

pub converted_from-requires-clause-inside : goal.converted_from-requires-clause-inside
converted_from-requires-clause-inside c =
    let n = c.args.component - 1 in
    let v = c.args.value.now in
    let targets = c.args.targets.now in
    let to = c.at-to.result in
    let made = c.in_ok-made.made in
    let here : n < length v.bases = omega (arith, c.requires.first, c.requires.last) in
    let within : n < length targets = omega (arith, here, lies_length v.bases targets c.requires.inside) in
    let different : get_or v.bases n to ≢ to = λ same. c.requires.different to (same ∙ c.at-to.ensures) in
    let step = value_told (ConvertsAt n to v) made (changed_step n to v (told made) different c.in_ok-made.ensures.row) in
    brought_inside n to v made c.in_ok-made.ensures.valid here step targets c.requires.inside within c.at-to.ensures

pub converted_from-requires-clause-degree : goal.converted_from-requires-clause-degree
converted_from-requires-clause-degree c =
    let n = c.args.component - 1 in
    let v = c.args.value.now in
    let targets = c.args.targets.now in
    let to = c.at-to.result in
    let made = c.in_ok-made.made in
    let here : n < length v.bases = omega (arith, c.requires.first, c.requires.last) in
    let within : n < length targets = omega (arith, here, lies_length v.bases targets c.requires.inside) in
    let different : get_or v.bases n to ≢ to = λ same. c.requires.different to (same ∙ c.at-to.ensures) in
    let step = value_told (ConvertsAt n to v) made (changed_step n to v (told made) different c.in_ok-made.ensures.row) in
    let less = brought_degree n to v made c.in_ok-made.ensures.valid here step (inside_at n v.bases targets to c.requires.inside within c.at-to.ensures) (built_at n targets to c.requires.built within c.at-to.ensures)
    (limit_at n targets to (degree_of_value v) c.requires.degree within c.at-to.ensures) in
    omega (arith, less, c.requires.degree)

pub returns : goal.returns
returns c =
    let n = c.args.component - 1 in
    let v = c.args.value.now in
    let targets = c.args.targets.now in
    let to = c.at-to.result in
    let made = c.in_ok-made.made in
    let next : c.args.component ≡ n + 1 = omega (arith, c.requires.first) in
    let here : n < length v.bases = omega (arith, c.requires.first, c.requires.last) in
    let within : n < length targets = omega (arith, here, lies_length v.bases targets c.requires.inside) in
    let different : get_or v.bases n to ≢ to = λ same. c.requires.different to (same ∙ c.at-to.ensures) in
    let step = value_told (ConvertsAt n to v) made (changed_step n to v (told made) different c.in_ok-made.ensures.row) in
    converts_behind targets n c.args.component to v made c.converted_from.result next within c.at-to.ensures step c.converted_from.ensures

pub returns-in_err-made : goal.returns-in_err-made
returns-in_err-made c =
    let n = c.args.component - 1 in
    let v = c.args.value.now in
    let targets = c.args.targets.now in
    let to = c.at-to.result in
    let r = c.in_err-made.field-0.0 in
    let here : n < length v.bases = omega (arith, c.requires.first, c.requires.last) in
    let within : n < length targets = omega (arith, here, lies_length v.bases targets c.requires.inside) in
    let different : get_or v.bases n to ≢ to = λ same. c.requires.different to (same ∙ c.at-to.ensures) in
    let p = err_from_is_err_and c.from_residual.result c.from_residual.ensures.1 in
    rw (p.1, p.2) (converts_ends targets n to (ConvertsFrom n (drop n targets) v) v r within c.at-to.ensures (λ answer row. row) (changed_step n to v (refused r) different c.in_err-made.ensures.row))
