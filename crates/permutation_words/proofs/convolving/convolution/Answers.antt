use Rattle.std.proofs.Common.{[]}
use Rattle.word_laws.specs.AddedCodes.{AddsEach}
use Rattle.word_laws.specs.Merges.{IsConvolution, IsConvolutionPast}
use Rattle.word_laws.proofs.AddedCodes.{adds_same}
use Rattle.word_laws.proofs.Convolutions.{convolution_front, convolution_is_spread, convolution_start}
use Rattle.permutation_words.proofs.CanonicalOrder.{sorted_lists}
use Rattle.permutation_words.proofs.convolving.convolution.Goals as goal

pub push_convolutions-requires : goal.push_convolutions-requires
push_convolutions-requires c =
    rw (c.code.ensures.value, c.code-2.ensures.value) (convolution_front c.args.a.now c.args.b.now c.code.ensures.small.permutation c.code-2.ensures.small.permutation c.requires)

pub returns : goal.returns
returns c =
    let a = c.args.a.now in
    let b = c.args.b.now in
    let adds : AddsEach (IsConvolutionPast 0 a b) [] c.push_convolutions.new.out =
    rw (c.new-codes.ensures, c.code.ensures.value, c.code-2.ensures.value) at c.in_ok-push_convolutions.ensures in
    sorted_lists (IsConvolution a b) c.push_convolutions.new.out c.sort.new.self
    (adds_same (IsConvolutionPast 0 a b) (IsConvolution a b) [] c.push_convolutions.new.out
    (convolution_start a b c.code.ensures.small.permutation c.code-2.ensures.small.permutation) (convolution_is_spread a b c.code.ensures.small.permutation c.code-2.ensures.small.permutation) adds)
    c.sort.ensures.permutation c.sort.ensures.sorted
