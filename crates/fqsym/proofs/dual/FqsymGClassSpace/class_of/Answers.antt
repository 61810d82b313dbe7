use Rattle.fqsym.proofs.Indices.{standard_class}
use Rattle.fqsym.proofs.dual.FqsymGClassSpace.class_of.Goals as goal

pub returns : goal.returns
returns c = rw c.standardise.ensures (standard_class c.args.point.now)
