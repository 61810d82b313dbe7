use Rattle.std.proofs.Common.{◌++◌, ◌<◌, ◌+◌, List, ℕ, drop, length, take, sym, ◌∙◌, ap, subst, arith}
use Rattle.std.proofs.lemmas.List.{length-drop, length-take}
use Rattle.permutation_words.specs.Sizes.{IsSmallPermutation}
use Rattle.realisations.specs.Standardisation.{standardise}
use Rattle.coproduct_rules.specs.PlaceCuts.{place_cuts}
use Rattle.tableau_coproducts.specs.ClassCuts.{reading_pair}
use Rattle.fsym.proofs.Indices.{small_standard}
use Rattle.fsym.proofs.PushedCuts.{next_pair, no_cuts, place_cuts_from}
use Rattle.fsym.proofs.cutting.push_cuts.Goals as goal

pub push_pair-requires-clause-front : goal.push_pair-requires-clause-front
push_pair-requires-clause-front c =
    subst IsSmallPermutation (sym (c.standardise-front.ensures ∙ ap standardise c.prefix.ensures))
    (small_standard (take c.loop-count.count c.args.word.now) (omega (arith, length-take c.loop-count.count c.args.word.now, c.requires.small)))

pub push_pair-requires-clause-back : goal.push_pair-requires-clause-back
push_pair-requires-clause-back c =
    subst IsSmallPermutation (sym (c.standardise-back.ensures ∙ ap standardise c.suffix.ensures))
    (small_standard (drop c.loop-count.count c.args.word.now) (omega (arith, length-drop c.loop-count.count c.args.word.now, c.requires.small)))

pub loop-count-preserved : goal.loop-count-preserved
loop-count-preserved c =
    let w : List ℕ = c.args.word.now in
    let k = c.loop-count.count in
    let lt : c.loop-count.count < length w + 1 = omega (arith, c.loop-count-test.true, c.len-count-end.ensures.value) in
    next_pair c.loop-count.out.items c.push_pair.new.out.items (standardise (take k w), standardise (drop k w)) (drop k (place_cuts w)) (drop (k + 1) (place_cuts w)) (place_cuts_from w k lt)
    (c.in_ok-push_pair.ensures
    ∙ (λ i. c.loop-count.out.items ++ reading_pair ((c.standardise-front.ensures ∙ ap standardise c.prefix.ensures) i, (c.standardise-back.ensures ∙ ap standardise c.suffix.ensures) i)))
    ∙ c.loop-count.invariant

pub returns : goal.returns
returns c =
    no_cuts c.loop-count.out.items c.args.word.now c.loop-count.count (omega (arith, c.loop-count-test.false, c.len-count-end.ensures.value)) ∙ c.loop-count.invariant
