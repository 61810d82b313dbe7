use Rattle.std.proofs.Common.{◌-◌, ◌∙◌, ap, arith, get_or, length}
use Rattle.std.specs.Prelude.{nat_lt}
use Rattle.inclusion_rules.proofs.CutPlaces.{code_before}
use Rattle.inclusion_rules.proofs.descents.descents_of_tableau.Goals as goal

pub with_place-parts-requires : goal.with_place-parts-requires
with_place-parts-requires c =
    let row = c.letter-row.ensures ∙ ap (λ n. get_or c.args.code.now (n - c.loop-done.done - 1) 0) c.len-len.ensures.value in
    code_before (λ x y. nat_lt x y) c.args.code.now c.loop-done.parts c.loop-done.done (nat_lt c.letter-row.result c.loop-done.next)
    (omega (arith, c.loop-done-test.true, c.len-len.ensures.value)) c.len-len.ensures.is_code.short c.loop-done.invariant.0
    (λ k. ap (λ x. nat_lt x c.loop-done.next) row ∙ ap (λ y. nat_lt (get_or c.args.code.now (length c.args.code.now - c.loop-done.done - 1) 0) y) (c.loop-done.invariant.1 k))
