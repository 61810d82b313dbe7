use Rattle.std.proofs.Common.{[]}
use Rattle.word_laws.specs.AddedCodes.{AddsEach}
use Rattle.packed_words.specs.Sizes.{IsPackedWordOf}
use Rattle.packed_words.proofs.listing.list.Given as goal

abbrev pub invariant-loop-size : goal.invariant-loop-size
invariant-loop-size l = AddsEach (IsPackedWordOf l.size) [] l.codes
