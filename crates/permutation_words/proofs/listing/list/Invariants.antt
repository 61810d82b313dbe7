use Rattle.std.proofs.Common.{[]}
use Rattle.word_laws.specs.AddedCodes.{AddsEach}
use Rattle.permutation_words.specs.Sizes.{IsPermutationOf}
use Rattle.permutation_words.proofs.listing.list.Given as goal

abbrev pub invariant-loop-size : goal.invariant-loop-size
invariant-loop-size l = AddsEach (IsPermutationOf l.size) [] l.codes
