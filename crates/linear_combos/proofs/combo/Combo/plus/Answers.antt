use Rattle.std.proofs.lemmas.Result.{IfOk-weaker}
use Rattle.linear_combos.proofs.SumsOfCombos.{IsSum-signed}
use Rattle.linear_combos.proofs.combo.Combo.plus.Goals as goal

pub returns-clause-sum : goal.returns-clause-sum
returns-clause-sum c = IfOk-weaker _ _ _ (λ s is. IsSum-signed c.args.a.now c.args.b.now s is) c.signed_sum.ensures.sum
