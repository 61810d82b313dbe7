use Rattle.std.proofs.Common.{◌+◌, ℕ, List, [], ◌∷◌, ◌++◌, drop, sym, ◌∙◌, ap, subst, arith}
use Rattle.std.proofs.lemmas.List.{append-nil}
use Rattle.linear_combos.specs.Codes.{IsCode}
use Rattle.linear_combos.proofs.Words.{IsCode-left}
use Rattle.realisations.specs.Descents.{partial_sums, descent_set}
use Rattle.compositions.specs.Sizes.{IsSmallComposition}
use Rattle.compositions.proofs.SmallCodes.{IsCode-descent_set, descent_set-next, partial_sums-last}
use Rattle.compositions.proofs.composition.Composition.descents.Goals as goal

pub with-places-requires : goal.with-places-requires
with-places-requires c =
    let parts : List ℕ = c.code-parts.result.now in
    let small : IsSmallComposition parts = subst IsSmallComposition (sym c.code-parts.ensures.value) c.code-parts.ensures.small in
    let more : ℕ = c.loop-at.total + c.letter-total.result in
    IsCode-left (c.loop-at.places ++ more ∷ []) (partial_sums more (drop (c.loop-at.at + 1) parts))
    (subst IsCode (descent_set-next parts c.loop-at.places c.loop-at.total c.letter-total.result c.loop-at.at (omega arith) c.letter-total.ensures c.loop-at.invariant.0) (IsCode-descent_set parts small))

pub returns : goal.returns
returns c =
    let parts : List ℕ = c.code-parts.result.now in
    sym (c.loop-at.invariant.0 ∙ ap (λ ps. c.loop-at.places ++ ps) (partial_sums-last c.loop-at.total parts c.loop-at.at (omega arith)) ∙ append-nil c.loop-at.places) ∙ ap descent_set c.code-parts.ensures.value
