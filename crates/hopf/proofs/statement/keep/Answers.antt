use Rattle.std.proofs.Common.{◌≡◌, rules, ap, sym, ◌∙◌, subst}
use Rattle.hopf.specs.declared.statement.Outcome.TheVariants.{Kept}
use Rattle.session_evaluation.specs.Names.{Names, has_room_for, with_value}
use Rattle.hopf.specs.Outcomes.{Keeps, room, no_room}
use Rattle.hopf.proofs.statement.keep.Goals as goal

pub returns-then-not-has_room_for-clause-ok : goal.returns-then-not-has_room_for-clause-ok
returns-then-not-has_room_for-clause-ok c =
    let same : has_room_for c.args.names.now c.args.name ≡ c.has_room_for.result = ap (has_room_for c.args.names.now) (sym c.as_slice.ensures) ∙ sym c.has_room_for.ensures in
    no_room (same ∙ (search rules))

pub returns-clause-ok : goal.returns-clause-ok
returns-clause-ok c =
    let same : has_room_for c.args.names.now c.args.name ≡ c.has_room_for.result = ap (has_room_for c.args.names.now) (sym c.as_slice.ensures) ∙ sym c.has_room_for.ensures in
    let assigned : c.assign.new.self ≡ with_value c.args.names.now c.args.name c.args.value = c.in_ok-assign.ensures.ok in
    subst (λ (names : Names). Keeps c.args.names.now c.args.name c.args.value Kept names) (sym assigned) (room (same ∙ (search rules)))
