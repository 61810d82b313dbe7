use Rattle.std.proofs.Common.{sym, ◌∙◌, ap, arith}
use Rattle.std.proofs.lemmas.List.{take_all}
use Rattle.linear_combos.specs.Packing.{word_of}
use Rattle.linear_combos.proofs.Words.{word_of-nil, packed_more, packed_fits}
use Rattle.linear_combos.proofs.code.packed.Goals as goal

pub loop-at-init : goal.loop-at-init
loop-at-init c = sym word_of-nil

pub overflow_add-word : goal.overflow_add-word
overflow_add-word c = search (arith, packed_fits c.args.letters.now c.loop-at.at c.loop-at.word c.from.result c.requires c.loop-at-test.true c.from.ensures c.loop-at.invariant)

pub loop-at-preserved : goal.loop-at-preserved
loop-at-preserved c = packed_more c.args.letters.now c.loop-at.at c.loop-at.word c.from.result c.requires c.loop-at-test.true c.from.ensures c.loop-at.invariant

pub returns : goal.returns
returns c = c.loop-at.invariant ∙ ap word_of (take_all c.loop-at.at c.args.letters.now (omega arith))
