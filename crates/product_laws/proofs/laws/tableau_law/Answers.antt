use Rattle.product_laws.proofs.TableauRule.{tableau_rule}
use Rattle.product_laws.proofs.laws.tableau_law.Goals as goal

pub returns : goal.returns
returns c = tableau_rule
