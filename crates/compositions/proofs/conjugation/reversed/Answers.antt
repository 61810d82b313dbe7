use Rattle.std.proofs.Common.{◌+◌, ◌∷◌, take, reverse, sym, ◌∙◌, ap, subst, arith}
use Rattle.std.proofs.lemmas.List.{take_all}
use Rattle.linear_combos.specs.Codes.{IsCode}
use Rattle.linear_combos.proofs.Words.{IsCode-take}
use Rattle.compositions.specs.Sizes.{IsSmallComposition}
use Rattle.compositions.proofs.SmallCodes.{IsCode-reverse, reverse-take, small-reverse}
use Rattle.compositions.proofs.conjugation.reversed.Goals as goal

pub part_before-back-requires : goal.part_before-back-requires
part_before-back-requires c =
    let letter = sym c.letter.ensures in
    let back = sym c.loop-at.invariant in
    subst IsCode (reverse-take c.args.parts.now c.loop-at.at (omega arith) ∙ (λ i. letter i ∷ back i))
    (IsCode-reverse (take (c.loop-at.at + 1) c.args.parts.now) (IsCode-take (c.loop-at.at + 1) c.args.parts.now c.len-at-end.ensures.is_code))

pub loop-at-preserved : goal.loop-at-preserved
loop-at-preserved c =
    let letter = c.letter.ensures in
    let back = c.loop-at.invariant in
    c.part_before-back.ensures ∙ (λ i. letter i ∷ back i) ∙ sym (reverse-take c.args.parts.now c.loop-at.at (omega arith))

pub returns-clause-small : goal.returns-clause-small
returns-clause-small c =
    subst IsSmallComposition (sym (c.loop-at.invariant ∙ ap reverse (take_all c.loop-at.at c.args.parts.now (omega arith)))) (small-reverse c.args.parts.now c.requires)
