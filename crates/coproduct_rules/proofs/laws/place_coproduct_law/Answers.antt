use Rattle.coproduct_rules.proofs.PlaceRule.{place_rule}
use Rattle.coproduct_rules.proofs.laws.place_coproduct_law.Goals as goal

pub returns : goal.returns
returns c = place_rule
