use Rattle.std.proofs.Common.{[]}
use Rattle.word_laws.specs.AddedCodes.{AddsEach}
use Rattle.binary_trees.specs.Sizes.{IsTreeCodeOf}
use Rattle.binary_trees.proofs.listing.list.Given as goal

abbrev pub invariant-loop-size : goal.invariant-loop-size
invariant-loop-size l = AddsEach (IsTreeCodeOf l.size) [] l.codes
