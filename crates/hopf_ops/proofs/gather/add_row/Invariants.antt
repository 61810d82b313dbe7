use Rattle.hopf_ops.specs.Gathering.{AreGathered}
use Rattle.hopf_ops.proofs.gather.add_row.Given as goal

abbrev pub invariant-loop-right : goal.invariant-loop-right
invariant-loop-right l = AreGathered l.bases l.a.terms l.b.terms l.left l.right l.out
