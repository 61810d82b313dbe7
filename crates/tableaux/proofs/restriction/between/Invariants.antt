use Rattle.std.proofs.Common.{◌≡◌, ◌++◌, drop}
use Rattle.tableaux.specs.NumberedTableaux.{lowered_between}
use Rattle.tableaux.proofs.restriction.between.Given as goal

abbrev pub invariant-loop-at : goal.invariant-loop-at
invariant-loop-at l = l.out ++ lowered_between l.from l.to (drop l.at l.word) ≡ lowered_between l.from l.to l.word
