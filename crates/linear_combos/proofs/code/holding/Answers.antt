use Rattle.linear_combos.proofs.Words.{held, HoldsCode-word_of}
use Rattle.linear_combos.proofs.code.holding.Goals as goal

pub invariant_of-result : goal.invariant_of-result
invariant_of-result c = HoldsCode-word_of c.packed-word.result c.args.letters.now c.packed-word.ensures c.requires

pub returns : goal.returns
returns c = held c.packed-word.result c.args.letters.now c.packed-word.ensures c.requires
