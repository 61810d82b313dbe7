use Rattle.std.proofs.Common.{negsuc, [], subst, ◌∙◌, unsigned_abs}
use Rattle.std.specs.Prelude.{IfOk}
use Rattle.std.proofs.lemmas.Result.{IfOk-weaker}
use Rattle.hopf_num.specs.Fractions.{Ratio}
use Rattle.hopf_num.specs.Room.{product_rule}
use Rattle.realisations.specs.Combinations.{Combination, norm_of}
use Rattle.linear_combos.specs.Faults.{TestsRoom}
use Rattle.linear_combos.specs.Combos.{IsMultiple}
use Rattle.basis_routes.specs.Checks.{Tests}
use Rattle.hopf_ops.specs.Answers.{IsOver, IsAnswerOver}
use Rattle.hopf_ops.proofs.Rooms.{answer_always, answer_expands}
use Rattle.hopf_ops.proofs.RowsInSteps.{answers_row}
use Rattle.hopf_ops.proofs.MultiplesOfValues.{multiple_over, multiple_reads, room_of_sign}
use Rattle.hopf_ops.proofs.multiples.negate.Goals as goal
use Rattle.hopf_ops.specs.ReadingOperations.{negative}
use Rattle.hopf_laws.specs.Values.{reading_of}

-- the fraction -1
abbrev sign : Ratio
sign = record { num = negsuc 0; den = 1 }

pub over_bases-requires : goal.over_bases-requires
over_bases-requires c =
    let a = c.args.a.now in
    let multiple : IfOk c.scale.result (IsMultiple a.combination sign) = rw (← c.combo.ensures.combination, ← c.minus_one.ensures) c.scale.ensures.multiple in
    rw (c.copy.ensures, c.bases.ensures.bases)
    (IfOk-weaker c.scale.result (IsMultiple a.combination sign) (IsOver a.bases) (λ s is. multiple_over a sign s c.bases.ensures.value is) multiple)

pub returns : goal.returns
returns c =
    let a = c.args.a.now in
    let multiple : IfOk c.scale.result (IsMultiple a.combination sign) = rw (← c.combo.ensures.combination, ← c.minus_one.ensures) c.scale.ensures.multiple in
    let needs = product_rule a.combination.den 1 (norm_of a.combination.terms) 1 0 in
    let left = c.combo.result.now in
    let room : TestsRoom needs c.scale.result =
    subst (λ (x : Combination). TestsRoom (product_rule x.den 1 (norm_of x.terms) 1 0) c.scale.result) c.combo.ensures.combination
    (subst (λ (r : Ratio). TestsRoom (product_rule left.den r.den (norm_of left.terms) (unsigned_abs r.num) 0) c.scale.result) c.minus_one.ensures c.scale.ensures.room) in
    let canonical = c.bases.ensures.value.canonical in
    let always : Tests [] c.over_bases.result =
    answer_always c.copy.result needs c.scale.result c.over_bases.result (room_of_sign a.combination.den (norm_of a.combination.terms) canonical.lowest.small canonical.ordered.small) room c.over_bases.ensures.answer in
    answers_row a.bases (negative (reading_of a)) c.over_bases.result always
    (answer_expands (IsMultiple a.combination sign) a.bases (negative (reading_of a)) c.scale.result c.over_bases.result
    (subst (λ bases. IsAnswerOver bases c.scale.result c.over_bases.result) (c.copy.ensures ∙ c.bases.ensures.bases) c.over_bases.ensures.answer) multiple c.over_bases.ensures.value
    (λ s is ps points. multiple_reads a sign s is ps))
