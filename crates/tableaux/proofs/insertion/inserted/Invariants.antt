use Rattle.std.proofs.Common.{◌≡◌, take}
use Rattle.realisations.specs.Tableaux.{insertion_tableau}
use Rattle.tableaux.proofs.insertion.inserted.Given as goal

abbrev pub invariant-loop-at : goal.invariant-loop-at
invariant-loop-at l = l.tableau ≡ insertion_tableau (take l.at l.word)
