use Rattle.std.proofs.Common.{◌≡◌, ◌∙◌, ap, sym, subst, pos, length, arith, rules}
use Rattle.std.proofs.lemmas.Int.{to_z-of_z}
use Rattle.hopf_num.specs.Room.{HasRoom}
use Rattle.hopf_num.specs.declared.room.Need.TheVariants.{Sum}
use Rattle.realisations.specs.Combinations.{Combination, norm_of}
use Rattle.linear_combos.specs.Combos.{IsMultiple}
use Rattle.hopf_ops.specs.Gathering.{AddsMultiple}
use Rattle.hopf_ops.proofs.SumsInPlace.{factor-le, is_sum_of_terms, passes_test, room_of_sign, rule_has_room, rule_lacks_room}
use mir.Syntax.{w128}
use Rattle.hopf_ops.proofs.sums.with_terms_of.Goals as goal

pub returns-then-is_err-clause-room : goal.returns-then-is_err-clause-room
returns-then-is_err-clause-room c = λ m least.
    let lowest = c.requires.canonical.lowest in
    let no : HasRoom (Sum c.norm.result 1 c.norm-2.result c.args.factor) → ⊥ = search rules in
    rw (← c.norm.ensures.value, ← c.norm-2.ensures.value) (rule_lacks_room c.args.a.den c.args.b.now.den c.args.factor m c.norm.result c.norm-2.result c.requires.factor lowest.positive lowest.small least no)

pub with_sign-requires : goal.with_sign-requires
with_sign-requires c =
    let lowest = c.requires.canonical.lowest in
    omega (arith, factor-le c.args.a.den c.args.b.now.den c.args.factor c.requires.factor lowest.positive, lowest.small)

pub add_multiple-requires-clause-room : goal.add_multiple-requires-clause-room
add_multiple-requires-clause-room c =
    let num = to_z-of_z w128 c.with_sign.result (record { sfits = c.with_sign.type_inv }) in
    let room : HasRoom (Sum c.norm.result 1 c.norm-2.result c.args.factor) = passes_test (Sum c.norm.result 1 c.norm-2.result c.args.factor) c.test.result c.test.ensures (cc (c.is_err.ensures.value, c.if-is_err.false)) in
    let same : norm_of c.numerators-sum.result.terms ≡ c.norm.result = ap (λ (x : Combination). norm_of x.terms) c.numerators-sum.ensures ∙ sym c.norm.ensures.value in
    rw (num, same, ← c.norm-2.ensures.value) (room_of_sign c.args.minus c.args.factor c.with_sign.result c.norm.result c.norm-2.result c.with_sign.ensures room)

pub returns-then-is_err-2-clause-room : goal.returns-then-is_err-2-clause-room
returns-then-is_err-2-clause-room c = λ m least.
    let lowest = c.requires.canonical.lowest in
    let room : HasRoom (Sum c.norm.result 1 c.norm-2.result c.args.factor) = passes_test (Sum c.norm.result 1 c.norm-2.result c.args.factor) c.test.result c.test.ensures (cc (c.is_err.ensures.value, c.if-is_err.false)) in
    rule_has_room c.args.a.den c.args.b.now.den c.args.factor m (norm_of c.args.a.terms) (norm_of c.args.b.now.terms) c.requires.factor lowest.positive lowest.small least
    (rw (c.norm.ensures.value, c.norm-2.ensures.value) at room)

pub returns-clause-room : goal.returns-clause-room
returns-clause-room c = λ m least.
    let lowest = c.requires.canonical.lowest in
    let room : HasRoom (Sum c.norm.result 1 c.norm-2.result c.args.factor) = passes_test (Sum c.norm.result 1 c.norm-2.result c.args.factor) c.test.result c.test.ensures (cc (c.is_err.ensures.value, c.if-is_err.false)) in
    rule_has_room c.args.a.den c.args.b.now.den c.args.factor m (norm_of c.args.a.terms) (norm_of c.args.b.now.terms) c.requires.factor lowest.positive lowest.small least
    (rw (c.norm.ensures.value, c.norm-2.ensures.value) at room)

pub returns-clause-sum : goal.returns-clause-sum
returns-clause-sum c =
    let num = to_z-of_z w128 c.with_sign.result (record { sfits = c.with_sign.type_inv }) in
    let den = to_z-of_z w128 c.den-den.result (record { sfits = c.den-den.type_inv }) in
    let added : AddsMultiple c.numerators-sum.result c.with_sign.result c.args.b.now.terms (length c.args.b.now.terms) c.add_multiple.new.out = rw (← num) (search rules) in
    let adds = subst (λ (x : Combination). AddsMultiple x c.with_sign.result c.args.b.now.terms (length c.args.b.now.terms) c.add_multiple.new.out) c.numerators-sum.ensures added in
    let over : IsMultiple c.add_multiple.new.out (record { num = pos 1; den = c.args.a.den }) c.over.result = rw (den, c.den-den.ensures) at c.over.ensures in
    is_sum_of_terms c.args.minus c.args.factor c.with_sign.result c.args.a c.args.b.now c.add_multiple.new.out c.over.result c.with_sign.ensures c.requires.factor adds over
