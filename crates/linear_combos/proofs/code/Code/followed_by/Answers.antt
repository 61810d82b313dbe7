use Rattle.std.proofs.Common.{◌++◌, arith}
use Rattle.linear_combos.proofs.Words.{held, HoldsCode-word_of, word_below, joined}
use Rattle.linear_combos.proofs.code.Code.followed_by.Goals as goal

pub overflow_add-word : goal.overflow_add-word
overflow_add-word c =
    let word = joined c.self.inside.word c.other.inside.word c.len-len.result c.args.self.now c.args.other.now c.self.invariant c.self.view_is c.other.invariant c.other.view_is c.len-len.ensures.value c.requires in
    rw word (search (arith, word_below (c.args.self.now ++ c.args.other.now) c.requires))

pub invariant_of-result : goal.invariant_of-result
invariant_of-result c =
    HoldsCode-word_of _ (c.args.self.now ++ c.args.other.now)
    (joined c.self.inside.word c.other.inside.word c.len-len.result c.args.self.now c.args.other.now c.self.invariant c.self.view_is c.other.invariant c.other.view_is c.len-len.ensures.value c.requires) c.requires

pub returns : goal.returns
returns c =
    held _ (c.args.self.now ++ c.args.other.now)
    (joined c.self.inside.word c.other.inside.word c.len-len.result c.args.self.now c.args.other.now c.self.invariant c.self.view_is c.other.invariant c.other.view_is c.len-len.ensures.value c.requires) c.requires
