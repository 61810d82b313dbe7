use Rattle.std.proofs.Common.{◌-◌, ◌∙◌, ap, arith, get_or}
use Rattle.std.specs.Prelude.{nat_lt}
use Rattle.inclusion_rules.proofs.CutPlaces.{code_before}
use Rattle.inclusion_rules.proofs.descents.descents_of_tree.Goals as goal

pub with_place-parts-requires : goal.with_place-parts-requires
with_place-parts-requires c =
    let letter = c.letter-cut.ensures ∙ ap (λ n. get_or c.args.code.now (n - c.loop-done.done - 1) 0) c.len-len.ensures.value in
    code_before (λ x y. nat_lt 1 x) c.args.code.now c.loop-done.parts c.loop-done.done (nat_lt 1 c.letter-cut.result) (omega (arith, c.loop-done-test.true, c.len-len.ensures.value)) c.len-len.ensures.is_code.short c.loop-done.invariant (λ k. ap (λ x. nat_lt 1 x) letter)
