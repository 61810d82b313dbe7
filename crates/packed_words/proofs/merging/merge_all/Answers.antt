use Rattle.std.proofs.Common.{[]}
use Rattle.word_laws.specs.AddedCodes.{AddsEach}
use Rattle.word_laws.specs.Merges.{IsMerge, IsMergePast}
use Rattle.word_laws.proofs.AddedCodes.{adds_same}
use Rattle.word_laws.proofs.Merges.{merge_front, merge_is_spread, merge_start}
use Rattle.permutation_words.proofs.CanonicalOrder.{sorted_lists}
use Rattle.packed_words.proofs.merging.merge_all.Goals as goal

pub push_merges-requires : goal.push_merges-requires
push_merges-requires c =
    rw (c.code.ensures.value, c.code-2.ensures.value) (merge_front c.args.a.now c.args.b.now c.code.ensures.small.packed c.code-2.ensures.small.packed c.requires)

pub returns : goal.returns
returns c =
    let a = c.args.a.now in
    let b = c.args.b.now in
    let adds : AddsEach (IsMergePast 0 a b) [] c.push_merges.new.out = rw (c.new-codes.ensures, c.code.ensures.value, c.code-2.ensures.value) at c.in_ok-push_merges.ensures in
    sorted_lists (IsMerge a b) c.push_merges.new.out c.sort.new.self
    (adds_same (IsMergePast 0 a b) (IsMerge a b) [] c.push_merges.new.out
    (merge_start a b c.code.ensures.small.packed c.code-2.ensures.small.packed) (merge_is_spread a b) adds)
    c.sort.ensures.permutation c.sort.ensures.sorted
