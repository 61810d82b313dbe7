use Rattle.std.proofs.Common.{take}
use Rattle.tableau_laws.specs.LatticeWords.{IsLatticeWord}
use Rattle.tableaux.proofs.lattice.is_lattice_word.Given as goal

abbrev pub invariant-loop-at : goal.invariant-loop-at
invariant-loop-at l = IsLatticeWord (take l.at l.code)
