use Rattle.wqsym.proofs.Coproducts.{monomial_coproducts}
use Rattle.wqsym.proofs.laws.wqsym_coproducts_exist_law.Goals as goal

pub returns : goal.returns
returns c = monomial_coproducts
