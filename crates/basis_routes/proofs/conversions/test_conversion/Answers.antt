use Rattle.std.proofs.Common.{◌≡◌, ◌<◌, ◌-◌, length, get_or, ◌∙◌, arith}
use Rattle.std.proofs.lemmas.List.{get_or_default}
use Rattle.std.proofs.lemmas.Result.{err_from_is_err_and}
use Rattle.basis_routes.proofs.ConversionSteps.{conversion_tests, room_refused}
use Rattle.basis_routes.proofs.conversions.test_conversion.Goals as goal

pub returns-in_err-test_room : goal.returns-in_err-test_room
returns-in_err-test_room c =
    let r = c.in_err-test_room.field-0.0 in
    let p = err_from_is_err_and c.from_residual-in_err-test_room.result c.from_residual-in_err-test_room.ensures.1 in
    rw (p.1, p.2) (room_refused (c.args.component - 1) c.args.to c.args.value.now r c.in_ok-test_way.ensures c.in_err-test_room.ensures.checks)

pub returns : goal.returns
returns c =
    let n = c.args.component - 1 in
    let v = c.args.value.now in
    let from = c.basis.result in
    let to = c.args.to in
    let lt : n < length v.bases = omega (arith, c.requires.first, c.requires.last) in
    let is : from ≡ get_or v.bases n to = c.basis.ensures ∙ get_or_default v.bases n from to lt in
    conversion_tests n to v from c.test.result is c.in_ok-test_way.ensures c.in_ok-test_room.ensures.checks c.test.ensures.checks
