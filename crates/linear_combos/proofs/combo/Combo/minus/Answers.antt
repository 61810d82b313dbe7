use Rattle.std.proofs.lemmas.Result.{IfOk-weaker}
use Rattle.linear_combos.proofs.SumsOfCombos.{IsDifference-signed}
use Rattle.linear_combos.proofs.combo.Combo.minus.Goals as goal

pub returns-clause-difference : goal.returns-clause-difference
returns-clause-difference c = IfOk-weaker _ _ _ (λ s is. IsDifference-signed c.args.a.now c.args.b.now s is) c.signed_sum.ensures.sum
