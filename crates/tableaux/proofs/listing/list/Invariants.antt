use Rattle.tableaux.proofs.LatticeLists.{ListsWords}
use Rattle.tableaux.proofs.listing.list.Given as goal

abbrev pub invariant-loop : goal.invariant-loop
invariant-loop l = ListsWords l.counter l.codes
