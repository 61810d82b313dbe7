use Rattle.coproduct_rules.proofs.UpperRule.{upper_parts_coproduct}
use Rattle.coproduct_rules.proofs.laws.upper_parts_law.Goals as goal

pub returns : goal.returns
returns c = upper_parts_coproduct
