use Rattle.std.proofs.Common.{◌≡◌, ◌+◌, ◌≤◌, drop}
use Rattle.realisations.specs.Standardisation.{count_same}
use Rattle.tableaux.proofs.lattice.times.Given as goal

abbrev pub invariant-loop-at : goal.invariant-loop-at
invariant-loop-at l = record {
  so_far : l.found + count_same l.letter (drop l.at l.code) ≡ count_same l.letter l.code;
  small : l.found ≤ l.at;
}
