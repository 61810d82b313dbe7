use Rattle.hopf_ops.specs.declared.operator.Operator.TheVariants.{Plus, Minus, Hash, Times, Over}
use Rattle.session_evaluation.proofs.Operations.{operated_as}
use Rattle.session_evaluation.proofs.evaluation.operate_from.Goals.{in-Plus, in-Minus, in-Hash, in-Times, in-Over}
use Rattle.session_evaluation.proofs.evaluation.operate_from.Goals as goal

pub returns : goal.returns
returns c =
    let a = c.args.a in
    let b = c.args.b.now in
    elim c.match-operator.branch [
      | in-Plus w ↦ operated_as c.args.operator Plus a b c.told_of.result c.match-operator.told_of w.add_to.result w.in-Plus.is c.told_of.ensures w.told_of-is w.add_to.ensures
      | in-Minus w ↦ operated_as c.args.operator Minus a b c.told_of.result c.match-operator.told_of w.sub_from.result w.in-Minus.is c.told_of.ensures w.told_of-is w.sub_from.ensures
      | in-Hash w ↦ operated_as c.args.operator Hash a b c.told_of.result c.match-operator.told_of w.tensor.result w.in-Hash.is c.told_of.ensures w.told_of-is w.tensor.ensures
      | in-Times w ↦ operated_as c.args.operator Times a b c.told_of.result c.match-operator.told_of w.times_by.result w.in-Times.is c.told_of.ensures w.told_of-is w.times_by.ensures
      | in-Over w ↦ operated_as c.args.operator Over a b c.told_of.result c.match-operator.told_of w.divided.result w.in-Over.is c.told_of.ensures w.told_of-is w.divided.ensures
    ]
