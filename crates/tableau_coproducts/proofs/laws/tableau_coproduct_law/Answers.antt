use Rattle.tableau_coproducts.proofs.Classes.{tableau_coproduct}
use Rattle.tableau_coproducts.proofs.laws.tableau_coproduct_law.Goals as goal

pub returns : goal.returns
returns c = tableau_coproduct
