use Rattle.std.proofs.Common.{◌++◌, Ok, Err, inl, rules, ◌*◌, ◌<◌, ◌^◌, sym, ◌∙◌, subst, unsigned_abs}
use Rattle.std.specs.Prelude.{All}
use Rattle.std.proofs.lemmas.Result.{err_from_is_err_and}
use Rattle.hopf_num.specs.Fractions.{Ratio}
use Rattle.realisations.specs.Combinations.{Combination, norm_of}
use Rattle.linear_combos.specs.Combos.{IsMultiple}
use Rattle.realisations.specs.Readings.{tensor}
use Rattle.hopf_laws.specs.Values.{IsValue, Expands, ratio_of, reading_of}
use Rattle.basis_routes.specs.Checks.{Passes, IsRefusalOf}
use Rattle.basis_routes.specs.Rows.{Answers}
use Rattle.hopf_ops.specs.Operations.{product_room}
use Rattle.hopf_ops.proofs.ProductsOfOperands.{scalar_row}
use Rattle.hopf_ops.proofs.RowsInSteps.{checks_refuse, tests_row}
use Rattle.hopf_ops.proofs.MultiplesOfValues.{multiple_value}
use Rattle.hopf_ops.proofs.ScalarMultiples.{dens_left, room_left, product_left}
use Rattle.hopf_ops.proofs.products.times_onto.Goals as goal

pub scaled_with_room-combo-requires-clause-norms : goal.scaled_with_room-combo-requires-clause-norms
scaled_with_room-combo-requires-clause-norms c =
    let other : IsValue c.args.a.now = c.test_room.ensures.left in
    let room = room_left c.args.b c.args.a.now c.into_parts-bases.ensures.value other c.in-Some.ensures.0 c.in_ok-test_room.ensures.checks in
    subst (λ (r : Ratio). norm_of c.into_parts-bases.result.1.terms * unsigned_abs r.num < 2 ^ 127) (sym c.in-Some.ensures.1)
    (subst (λ (s : Combination). norm_of s.terms * unsigned_abs (ratio_of c.args.a.now).num < 2 ^ 127) (sym c.into_parts-bases.ensures.combination) room)

pub scaled_with_room-combo-requires-clause-dens : goal.scaled_with_room-combo-requires-clause-dens
scaled_with_room-combo-requires-clause-dens c =
    let room = dens_left c.args.b c.args.a.now c.into_parts-bases.ensures.value c.test_room.ensures.left c.in-Some.ensures.0 c.in_ok-test_room.ensures.checks in
    subst (λ (r : Ratio). c.into_parts-bases.result.1.den * r.den < 2 ^ 127) (sym c.in-Some.ensures.1)
    (subst (λ (s : Combination). s.den * (ratio_of c.args.a.now).den < 2 ^ 127) (sym c.into_parts-bases.ensures.combination) room)

pub over-requires : goal.over-requires
over-requires c =
    let multiple : IsMultiple c.args.b.combination c.in-Some.factor c.scaled_with_room-combo.result = rw (← c.into_parts-bases.ensures.combination) c.scaled_with_room-combo.ensures.multiple in
    rw c.into_parts-bases.ensures.bases (multiple_value c.args.b c.in-Some.factor c.scaled_with_room-combo.result c.into_parts-bases.ensures.value multiple c.scaled_with_room-combo.ensures.canonical)

-- the checks of room refuse
pub returns-in_err-test_room : goal.returns-in_err-test_room
returns-in_err-test_room c =
    let p = err_from_is_err_and c.from_residual.result c.from_residual.ensures.1 in
    let a = c.args.a.now in
    let b = c.args.b in
    let refused : IsRefusalOf (product_room 0 a b) c.in_err-test_room.field-0.0 = search rules in
    rw (p.1, p.2) (scalar_row a b (Err c.in_err-test_room.field-0.0) (inl c.in-Some.ensures.0)
    (checks_refuse (product_room 0 a b) (Answers (a.bases ++ b.bases) (tensor (reading_of a) (reading_of b))) c.in_err-test_room.field-0.0 refused))

-- they pass, and the product is the multiple
pub returns : goal.returns
returns c =
    let a = c.args.a.now in
    let b = c.args.b in
    let pass : All Passes (product_room 0 a b) = search rules in
    let other : IsValue c.args.a.now = c.test_room.ensures.left in
    let multiple : IsMultiple c.args.b.combination (ratio_of c.args.a.now) c.scaled_with_room-combo.result =
    subst (λ (r : Ratio). IsMultiple c.args.b.combination r c.scaled_with_room-combo.result) c.in-Some.ensures.1 (rw (← c.into_parts-bases.ensures.combination) c.scaled_with_room-combo.ensures.multiple) in
    let value : Expands (a.bases ++ b.bases) (tensor (reading_of a) (reading_of b)) c.over.result =
    product_left c.args.b c.args.a.now c.into_parts-bases.ensures.value other c.in-Some.ensures.0 c.scaled_with_room-combo.result multiple c.scaled_with_room-combo.ensures.canonical c.over.result
    (c.over.ensures ∙ (λ i. record { bases = c.into_parts-bases.ensures.bases i; combination = c.scaled_with_room-combo.result })) in
    scalar_row a b (Ok c.over.result) (inl c.in-Some.ensures.0)
    (tests_row (product_room 0 a b) (a.bases ++ b.bases) (tensor (reading_of a) (reading_of b)) (Ok c.over.result) pass value)
