use Rattle.std.proofs.Common.{arith}
use Rattle.fqsym.proofs.Indices.{inverse_class, small_standard}
use Rattle.fqsym.proofs.fundamental.FqsymFClassSpace.class_of.Goals as goal

pub inverse-requires : goal.inverse-requires
inverse-requires c = rw c.standardise-standard.ensures (small_standard c.args.point.now (omega (arith, c.requires)))

pub returns : goal.returns
returns c = rw (c.inverse.ensures, c.standardise-standard.ensures) (inverse_class c.args.point.now)
