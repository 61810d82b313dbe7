use Rattle.hopf_ops.proofs.AntipodeRows.{antipodes_decide}
use Rattle.hopf_ops.proofs.CommuteRows.{commutes_decide}
use Rattle.hopf_ops.proofs.CoproductRows.{coproducts_decide}
use Rattle.hopf_ops.proofs.CounitRows.{counits_decide}
use Rattle.hopf_ops.proofs.EqualRows.{equals_decide}
use Rattle.hopf_ops.proofs.MultRows.{mults_decide}
use Rattle.hopf_ops.proofs.NegationRows.{negations_decide}
use Rattle.hopf_ops.proofs.OperatorRows.{operators_decide}
use Rattle.hopf_ops.proofs.laws.row_law.Goals as goal

pub returns-clause-operator : goal.returns-clause-operator
returns-clause-operator c = operators_decide

pub returns-clause-negation : goal.returns-clause-negation
returns-clause-negation c = negations_decide

pub returns-clause-coproduct : goal.returns-clause-coproduct
returns-clause-coproduct c = coproducts_decide

pub returns-clause-counit : goal.returns-clause-counit
returns-clause-counit c = counits_decide

pub returns-clause-antipode : goal.returns-clause-antipode
returns-clause-antipode c = antipodes_decide

pub returns-clause-commute : goal.returns-clause-commute
returns-clause-commute c = commutes_decide

pub returns-clause-mult : goal.returns-clause-mult
returns-clause-mult c = mults_decide

pub returns-clause-equal : goal.returns-clause-equal
returns-clause-equal c = equals_decide
