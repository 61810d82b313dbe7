use Rattle.std.proofs.Common.{drop}
use Rattle.linear_combos.proofs.Words.{held, HoldsCode-word_of, code_from, IsCode-drop, dropped}
use Rattle.linear_combos.proofs.code.Code.suffix.Goals as goal

pub invariant_of-result : goal.invariant_of-result
invariant_of-result c =
    let code = IsCode-drop c.args.from c.args.self.now (code_from c.self.inside.word c.args.self.now c.self.invariant c.self.view_is) in
    HoldsCode-word_of _ (drop c.args.from c.args.self.now) (dropped c.self.inside.word c.args.from c.args.self.now c.self.invariant c.self.view_is c.requires) code

pub returns : goal.returns
returns c =
    let code = IsCode-drop c.args.from c.args.self.now (code_from c.self.inside.word c.args.self.now c.self.invariant c.self.view_is) in
    held _ (drop c.args.from c.args.self.now) (dropped c.self.inside.word c.args.from c.args.self.now c.self.invariant c.self.view_is c.requires) code
