use Rattle.std.proofs.Common.{[], ◌∷◌, ◌++◌, ◌∙◌, ap}
use Rattle.std.proofs.lemmas.Int.{to_z-of_z}
use Rattle.linear_combos.proofs.LowestCombos.{adds-push}
use mir.Syntax.{w128}
use Rattle.linear_combos.proofs.unreduced.Unreduced.push.Goals as goal

pub returns-in_ok-put_last-clause-adds : goal.returns-in_ok-put_last-clause-adds
returns-in_ok-put_last-clause-adds c =
    let num = ap (λ n. c.args.self.now.terms ++ (n, c.args.key) ∷ []) (to_z-of_z w128 c.args.num c.ranges.num) in
    adds-push c.args.self.now.terms _ c.args.num c.args.key (c.in_ok-put_last.ensures.terms ∙ num)
