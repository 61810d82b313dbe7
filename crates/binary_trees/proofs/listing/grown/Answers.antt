use Rattle.std.proofs.Common.{arith}
use Rattle.permutation_words.proofs.CanonicalOrder.{here}
use Rattle.binary_trees.proofs.GrownTrees.{grown_more, grown_short, grown_start, grown_whole}
use Rattle.binary_trees.proofs.listing.grown.Goals as goal

pub loop-at-init : goal.loop-at-init
loop-at-init c = rw c.new-longer.ensures (grown_start c.args.n c.args.codes.now c.requires.all)

pub push_longer-requires : goal.push_longer-requires
push_longer-requires c =
    grown_short c.args.n c.args.codes.now c.requires.all c.loop-at.at c.at.result.now c.requires.few (omega (arith, c.len-at-end.ensures))
    (here c.args.codes.now c.loop-at.at c.at.result.now (omega (arith, c.len-at-end.ensures)) c.at.ensures)

pub loop-at-preserved : goal.loop-at-preserved
loop-at-preserved c =
    grown_more c.args.n c.args.codes.now c.requires.all c.loop-at.at c.at.result.now c.loop-at.longer c.push_longer.new.out (omega (arith, c.len-at-end.ensures))
    (here c.args.codes.now c.loop-at.at c.at.result.now (omega (arith, c.len-at-end.ensures)) c.at.ensures) c.loop-at.invariant c.in_ok-push_longer.ensures

pub returns : goal.returns
returns c = grown_whole c.args.n c.args.codes.now c.requires.all c.loop-at.at c.loop-at.longer (omega (arith, c.len-at-end.ensures)) c.loop-at.invariant
