use Rattle.std.proofs.Common.{[], sym}
use Rattle.linear_combos.proofs.Words.{held, HoldsCode-word_of, word_of-nil, IsCode-nil}
use Rattle.linear_combos.proofs.code.Code.empty.Goals as goal

pub invariant_of-result : goal.invariant_of-result
invariant_of-result c = HoldsCode-word_of 0 [] (sym word_of-nil) IsCode-nil

pub returns : goal.returns
returns c = held 0 [] (sym word_of-nil) IsCode-nil
