use Rattle.std.proofs.Common.{◌++◌, ◌∷◌, [], arith}
use Rattle.linear_combos.proofs.Words.{held, HoldsCode-word_of, word_below, word_from, pushed}
use Rattle.linear_combos.proofs.code.Code.with.Goals as goal

pub overflow_add-word : goal.overflow_add-word
overflow_add-word c =
    let word = pushed c.self.inside.word c.len-len.result c.args.letter c.from.result c.args.self.now (word_from _ _ c.self.invariant c.self.view_is) c.len-len.ensures.value c.from.ensures c.requires in
    rw word (search (arith, word_below (c.args.self.now ++ c.args.letter ∷ []) c.requires))

pub invariant_of-result : goal.invariant_of-result
invariant_of-result c =
    HoldsCode-word_of _ (c.args.self.now ++ c.args.letter ∷ [])
    (pushed c.self.inside.word c.len-len.result c.args.letter c.from.result c.args.self.now (word_from _ _ c.self.invariant c.self.view_is) c.len-len.ensures.value c.from.ensures c.requires) c.requires

pub returns : goal.returns
returns c =
    held _ (c.args.self.now ++ c.args.letter ∷ [])
    (pushed c.self.inside.word c.len-len.result c.args.letter c.from.result c.args.self.now (word_from _ _ c.self.invariant c.self.view_is) c.len-len.ensures.value c.from.ensures c.requires) c.requires
