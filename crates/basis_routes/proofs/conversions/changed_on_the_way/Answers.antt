use Rattle.std.proofs.Common.{◌<◌, ◌-◌, [], ◌∷◌, length, arith}
use Rattle.hopf_laws.specs.Values.{reading_of}
use Rattle.basis_routes.specs.Conversions.{conversion_checks}
use Rattle.basis_routes.specs.Lists.{replaced}
use Rattle.basis_routes.specs.Rows.{Answers}
use Rattle.basis_routes.proofs.ChangedValues.{can_change_on_the_way, can_convert}
use Rattle.basis_routes.proofs.SteppedRows.{checks_pass}
use Rattle.basis_routes.proofs.conversions.changed_on_the_way.Goals as goal

pub changed_or_refused-requires-clause-change : goal.changed_or_refused-requires-clause-change
changed_or_refused-requires-clause-change c =
    let n = c.args.component - 1 in
    let lt : n < length c.args.value.now.bases = omega (arith, c.requires.first, c.requires.last) in
    can_change_on_the_way n c.args.to c.args.value.now lt c.requires.built c.requires.different c.in_ok-test_conversion.ensures

pub changed_or_refused-requires-clause-room : goal.changed_or_refused-requires-clause-room
changed_or_refused-requires-clause-room c = (can_convert (c.args.component - 1) c.args.to c.args.value.now c.in_ok-test_conversion.ensures).room

pub returns : goal.returns
returns c =
    let n = c.args.component - 1 in
    let v = c.args.value.now in
    checks_pass (conversion_checks n c.args.to v) (Answers (replaced n (c.args.to ∷ []) v.bases) (reading_of v)) c.changed_or_refused.result c.in_ok-test_conversion.ensures c.changed_or_refused.ensures
