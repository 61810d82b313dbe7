use Rattle.coproduct_rules.proofs.Compatibility.{compatible}
use Rattle.coproduct_rules.proofs.laws.compatibility_law.Goals as goal

pub returns : goal.returns
returns c = compatible
