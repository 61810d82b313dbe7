use Rattle.std.proofs.Common.{◌++◌, ◌∷◌, [], ◌∙◌, ap, arith}
use Rattle.permutation_words.proofs.CanonicalOrder.{here}
use Rattle.permutation_words.proofs.GrownPermutations.{grown_front, grown_more, grown_start, grown_whole}
use Rattle.permutation_words.proofs.listing.grown.Goals as goal

pub loop-at-init : goal.loop-at-init
loop-at-init c = rw c.new-longer.ensures (grown_start c.args.n c.args.codes.now c.requires.all)

pub push_convolutions-requires : goal.push_convolutions-requires
push_convolutions-requires c =
    grown_front c.args.n c.args.codes.now c.requires.all c.loop-at.at c.with-first.result c.at.result.now c.requires.few
    (c.with-first.ensures ∙ ap (λ w. w ++ 1 ∷ []) c.empty.ensures) (omega (arith, c.len-at-end.ensures)) (here c.args.codes.now c.loop-at.at c.at.result.now (omega (arith, c.len-at-end.ensures)) c.at.ensures)

pub loop-at-preserved : goal.loop-at-preserved
loop-at-preserved c =
    grown_more c.args.n c.args.codes.now c.requires.all c.loop-at.at c.with-first.result c.at.result.now c.loop-at.longer c.push_convolutions.new.out
    (c.with-first.ensures ∙ ap (λ w. w ++ 1 ∷ []) c.empty.ensures) (omega (arith, c.len-at-end.ensures)) (here c.args.codes.now c.loop-at.at c.at.result.now (omega (arith, c.len-at-end.ensures)) c.at.ensures)
    c.loop-at.invariant c.in_ok-push_convolutions.ensures

pub returns : goal.returns
returns c = grown_whole c.args.n c.args.codes.now c.requires.all c.loop-at.at c.loop-at.longer (omega (arith, c.len-at-end.ensures)) c.loop-at.invariant
