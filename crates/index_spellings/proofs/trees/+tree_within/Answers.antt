use Rattle.std.proofs.Common.{refl, ◌∙◌, arith}
use Rattle.index_spellings.specs.Items.{after_list}
use Rattle.index_spellings.proofs.SpelledTrees.{both_spelled, left_none, no_list, right_none, second_none}
use Rattle.index_spellings.proofs.trees.+tree_within.Goals as goal

pub returns-in_err-behind : goal.returns-in_err-behind
returns-in_err-behind t c =
    c.from_residual.ensures ∙ no_list c.args.limit c.args.levels c.args.items.now (omega arith) c.in_err-behind.ensures

pub returns-in_err-left : goal.returns-in_err-left
returns-in_err-left t c =
    let ts = c.in_ok-behind.behind.now in
    c.from_residual-in_err-left.ensures
    ∙ left_none c.args.limit c.args.levels c.args.items.now ts c.inside_list.result.now (after_list 0 ts) (omega arith) c.in_ok-behind.ensures c.inside_list.ensures refl c.in_err-left.ensures

pub returns-in_err-second : goal.returns-in_err-second
returns-in_err-second t c =
    let ts = c.in_ok-behind.behind.now in
    c.from_residual-in_err-second.ensures
    ∙ second_none c.args.limit c.args.levels c.args.items.now ts c.inside_list.result.now c.behind_list.result.now (omega arith) c.in_ok-behind.ensures c.inside_list.ensures c.behind_list.ensures c.in_err-second.ensures

pub returns-in_err-right : goal.returns-in_err-right
returns-in_err-right t c =
    let ts = c.in_ok-behind.behind.now in
    c.from_residual-in_err-right.ensures
    ∙ right_none c.args.limit c.args.levels c.args.items.now ts c.inside_list.result.now c.behind_list.result.now (omega arith) c.in_ok-behind.ensures c.inside_list.ensures c.behind_list.ensures
    c.in_ok-second.second.now c.in_ok-second.ensures c.in_err-right.ensures

pub returns : goal.returns
returns t c =
    let ts = c.in_ok-behind.behind.now in
    c.node_code.ensures
    ∙ both_spelled c.args.limit c.args.levels c.args.items.now ts c.inside_list.result.now c.behind_list.result.now (omega arith) c.in_ok-behind.ensures c.inside_list.ensures c.behind_list.ensures
    c.in_ok-second.second.now c.in_ok-second.ensures c.in_ok-left.left c.in_ok-right.right c.in_ok-left.ensures c.in_ok-right.ensures
