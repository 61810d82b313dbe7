use Rattle.hopf_ops.specs.Gathering.{AreGathered}
use Rattle.hopf_ops.proofs.gather.add_products.Given as goal

abbrev pub invariant-loop-left : goal.invariant-loop-left
invariant-loop-left l = AreGathered l.bases l.a.terms l.b.terms l.left 0 l.out
