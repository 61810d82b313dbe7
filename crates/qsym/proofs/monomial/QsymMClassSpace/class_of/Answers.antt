use Rattle.qsym.proofs.Indices.{own_class}
use Rattle.qsym.proofs.monomial.QsymMClassSpace.class_of.Goals as goal

pub returns : goal.returns
returns c = own_class c.args.point.now c.len-len.ensures.is_code
