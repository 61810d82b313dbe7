use Rattle.std.proofs.Common.{◌≡◌, ◌≤◌, length, ap, ◌∙◌}
use Rattle.std.specs.List.{insert}
use Rattle.std.proofs.lemmas.Int.{to_z-of_z}
use Rattle.linear_combos.proofs.Edits.{adds-insert}
use mir.Syntax.{w128}
use Rattle.linear_combos.proofs.combo.Combo.add_with_room.Goals as goal

pub returns-in_ok-put_in-in-Err-clause-adds : goal.returns-in_ok-put_in-in-Err-clause-adds
returns-in_ok-put_in-in-Err-clause-adds c =
    let terms : c.deref.result.now ≡ c.args.self.now.terms = c.deref.ensures.value ∙ ap (λ s. s.terms) c.self.view_is in
    let in_range : c.in-Err.at ≤ length c.args.self.now.terms = rw (← terms) c.in-Err.ensures.absent.in_range in
    let num = ap (λ n. insert c.args.self.now.terms c.in-Err.at (n, c.args.key)) (to_z-of_z w128 c.args.num c.ranges.num) in
    adds-insert c.args.self.now.terms _ c.in-Err.at c.args.num c.args.key in_range (c.in_ok-put_in-in-Err.ensures.terms ∙ num)
