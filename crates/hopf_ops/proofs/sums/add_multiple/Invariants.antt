use Rattle.hopf_ops.specs.Gathering.{AddsMultiple}
use Rattle.hopf_ops.proofs.sums.add_multiple.Given as goal

abbrev pub invariant-loop-at : goal.invariant-loop-at
invariant-loop-at l = AddsMultiple l.initial.out l.num l.by.terms l.at l.out
