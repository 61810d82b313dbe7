use Rattle.hopf_ops.specs.declared.operator.Operator.TheVariants.{Plus, Minus, Hash, Times, Over}
use Rattle.session_evaluation.proofs.Operations.{operated_as}
use Rattle.session_evaluation.proofs.evaluation.operate_between.Goals.{in-Plus, in-Minus, in-Hash, in-Times, in-Over}
use Rattle.session_evaluation.proofs.evaluation.operate_between.Goals as goal

pub returns : goal.returns
returns c =
    let a = c.args.a.now in
    let b = c.args.b.now in
    elim c.match-operator.branch [
      | in-Plus w ↦ operated_as c.args.operator Plus a b c.told_of.result c.match-operator.told_of w.add.result w.in-Plus.is c.told_of.ensures w.told_of-is w.add.ensures
      | in-Minus w ↦ operated_as c.args.operator Minus a b c.told_of.result c.match-operator.told_of w.sub.result w.in-Minus.is c.told_of.ensures w.told_of-is w.sub.ensures
      | in-Hash w ↦ operated_as c.args.operator Hash a b c.told_of.result c.match-operator.told_of w.tensor.result w.in-Hash.is c.told_of.ensures w.told_of-is w.tensor.ensures
      | in-Times w ↦ operated_as c.args.operator Times a b c.told_of.result c.match-operator.told_of w.times.result w.in-Times.is c.told_of.ensures w.told_of-is w.times.ensures
      | in-Over w ↦ operated_as c.args.operator Over a b c.told_of.result c.match-operator.told_of w.divide.result w.in-Over.is c.told_of.ensures w.told_of-is w.divide.ensures
    ]
