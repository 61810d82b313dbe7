use Rattle.std.proofs.Common.{◌≡◌, ◌+◌, ◌≤◌, take}
use Rattle.hopf.specs.Sessions.{Advances}
use Rattle.hopf.proofs.session.Session.feed_bytes.Given as goal

abbrev pub invariant-loop-i : goal.invariant-loop-i
invariant-loop-i g l = record {
  so_far : Advances l.initial.self l.self (g.O.Sink.taken l.initial.out) (g.O.Sink.taken l.out) (g.O.Sink.room l.initial.out) (g.O.Sink.room l.out) (take l.i l.piece);
  statements : l.self.statements ≤ l.initial.self.statements + l.i;
  ended : l.self.ended ≡ l.initial.self.ended;
  later : g.O.Sink.faults l.initial.out ≤ g.O.Sink.faults l.out;
}
