use Rattle.std.proofs.Common.{◌≢◌, subst, sym, ◌∙◌, ap}
use Rattle.std.proofs.Math.IntN.{pos}
use mir.Syntax.{w128}
use mir.Val.{of_z}
use Rattle.std.proofs.lemmas.Int.{to_z-of_z}
use Rattle.linear_combos.specs.Merges.{AreMultiples, multiples}
use Rattle.linear_combos.proofs.Multiples.{multiples_some}
use Rattle.linear_combos.proofs.unreduced.multiply.Goals as goal

pub returns : goal.returns
returns c =
    let some : c.args.by ≢ pos 0 = (λ e. absurd (c.if-by-eq0.false (ap (of_z w128) e))) in
    let items = c.multiply_each.ensures ∙ ap (λ p. multiples p c.args.terms.now.items) (to_z-of_z w128 c.args.by c.ranges.by) in
    subst (AreMultiples c.args.by c.args.terms.now.items) (sym items) (multiples_some c.args.by some c.args.terms.now.items c.requires)
