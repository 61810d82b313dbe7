use Rattle.std.proofs.Common.{◌∙◌, take, arith}
use Rattle.linear_combos.proofs.Words.{held, HoldsCode-word_of, code_from, IsCode-take, taken, taken_is}
use Rattle.linear_combos.proofs.code.Code.prefix.Goals as goal

pub overflow_sub-word : goal.overflow_sub-word
overflow_sub-word c =
    omega (arith, taken c.self.inside.word c.rest.inside.word c.args.len c.args.self.now c.self.invariant c.self.view_is c.rest.invariant (c.rest.view_is ∙ c.suffix-rest.ensures) c.requires)

pub invariant_of-result : goal.invariant_of-result
invariant_of-result c =
    let code = IsCode-take c.args.len c.args.self.now (code_from c.self.inside.word c.args.self.now c.self.invariant c.self.view_is) in
    HoldsCode-word_of _ (take c.args.len c.args.self.now)
    (taken_is c.self.inside.word c.rest.inside.word c.args.len c.args.self.now c.self.invariant c.self.view_is c.rest.invariant (c.rest.view_is ∙ c.suffix-rest.ensures) c.requires) code

pub returns : goal.returns
returns c =
    let code = IsCode-take c.args.len c.args.self.now (code_from c.self.inside.word c.args.self.now c.self.invariant c.self.view_is) in
    held _ (take c.args.len c.args.self.now)
    (taken_is c.self.inside.word c.rest.inside.word c.args.len c.args.self.now c.self.invariant c.self.view_is c.rest.invariant (c.rest.view_is ∙ c.suffix-rest.ensures) c.requires) code
