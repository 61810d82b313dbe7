use Rattle.wqsym.proofs.Indices.{packed_class}
use Rattle.wqsym.proofs.monomial.WqsymMClassSpace.class_of.Goals as goal

pub returns : goal.returns
returns c = rw c.pack.ensures (packed_class c.args.point.now)
