use Rattle.word_laws.specs.AddedCodes.{AddsEach}
use Rattle.binary_trees.proofs.GrownTrees.{IsLongerTo}
use Rattle.binary_trees.proofs.listing.push_longer.Given as goal

abbrev pub invariant-loop-cut : goal.invariant-loop-cut
invariant-loop-cut l = AddsEach (IsLongerTo l.cut l.code) l.initial.out l.out
