-- The row of each operator allows exactly one answer, whose value reads as the operation.
use Rattle.hopf_ops.specs.declared.operator.Operator.TheVariants.{Plus, Minus, Hash, Times, Over}
use Rattle.std.specs.Prelude.{true, false}
use Rattle.hopf_ops.specs.Laws.{OperatorLaw}
use Rattle.hopf_ops.proofs.ProductRows.{products_decide}
use Rattle.hopf_ops.proofs.QuotientRows.{quotients_decide}
use Rattle.hopf_ops.proofs.SumRows.{sums_decide}
use Rattle.hopf_ops.proofs.TensorRows.{tensors_decide}

pub operators_decide : OperatorLaw
operators_decide Plus a b ha hb = sums_decide false a b ha hb
operators_decide Minus a b ha hb = sums_decide true a b ha hb
operators_decide Hash a b ha hb = tensors_decide a b ha hb
operators_decide Times a b ha hb = products_decide a b ha hb
operators_decide Over a b ha hb = quotients_decide a b ha hb
