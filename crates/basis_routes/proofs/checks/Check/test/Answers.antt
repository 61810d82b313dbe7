use Rattle.std.proofs.Common.{◌≡◌, [], ◌∷◌, if◌then◌else◌, Ok, Err, rules, sym, ◌∙◌, subst}
use Rattle.basis_names.specs.Bases.{algebra_of}
use Rattle.hopf_num.specs.declared.room.Need.{Need}
use Rattle.realisations.specs.Bases.{lies_in}
use Rattle.basis_routes.specs.declared.checks.Check.{Check}
use Rattle.basis_routes.specs.declared.checks.Check.TheVariants.{Routed, Contained, Room}
use Rattle.basis_routes.specs.declared.refusal.Refusal.TheVariants.{TooLarge}
use Rattle.basis_routes.specs.Checks.{Tests, refusal_of}
use Rattle.basis_routes.proofs.TestedChecks.{tests_one, tests_room}
use Rattle.basis_routes.proofs.checks.Check.test.Goals as goal

pub returns-in-Routed-clause-checks : goal.returns-in-Routed-clause-checks
returns-in-Routed-clause-checks c =
    let from = c.in-Routed.from in
    let to = c.in-Routed.to in
    let check : Check = Routed from to in
    let is : c.args.self ≡ check = search rules in
    let made : c.refuse_unless-in-Routed.result ≡ if c.is_routed.result then (Ok tt) else (Err (refusal_of check)) = search rules in
    subst (λ (x : Check). Tests (x ∷ []) c.refuse_unless-in-Routed.result) (sym is)
    (tests_one check c.is_routed.result c.refuse_unless-in-Routed.result c.is_routed.ensures made)

pub returns-in-Contained-clause-checks : goal.returns-in-Contained-clause-checks
returns-in-Contained-clause-checks c =
    let from = c.in-Contained.from in
    let to = c.in-Contained.to in
    let check : Check = Contained from to in
    let is : c.args.self ≡ check = search rules in
    let test : c.is_inside.result ≡ lies_in (algebra_of from) (algebra_of to) = search rules in
    let made : c.refuse_unless-in-Contained.result ≡ if c.is_inside.result then (Ok tt) else (Err (refusal_of check)) = search rules in
    subst (λ (x : Check). Tests (x ∷ []) c.refuse_unless-in-Contained.result) (sym is)
    (tests_one check c.is_inside.result c.refuse_unless-in-Contained.result (λ t. sym test ∙ t, λ t. test ∙ t) made)

pub returns-in-Room-clause-checks : goal.returns-in-Room-clause-checks
returns-in-Room-clause-checks c =
    let need : Need = c.in-Room.need in
    let check : Check = Room need in
    let is : c.args.self ≡ check = search rules in
    let made : c.refuse_unless-in-Room.result ≡ if c.is_ok.result then (Ok tt) else (Err (TooLarge need)) = search rules in
    subst (λ (x : Check). Tests (x ∷ []) c.refuse_unless-in-Room.result) (sym is)
    (tests_room need c.test.result c.is_ok.result c.refuse_unless-in-Room.result c.test.ensures c.is_ok.ensures.value made)
