use Rattle.coproduct_laws.proofs.MonomialRule.{monomial_rule}
use Rattle.coproduct_laws.proofs.laws.monomial_coproduct_law.Goals as goal

pub returns : goal.returns
returns c = monomial_rule
