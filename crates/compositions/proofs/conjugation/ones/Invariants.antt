use Rattle.std.proofs.Common.{◌≡◌, replicate}
use Rattle.compositions.proofs.conjugation.ones.Given as goal

abbrev pub invariant-loop : goal.invariant-loop
invariant-loop l = l.code ≡ replicate l.counter 1
