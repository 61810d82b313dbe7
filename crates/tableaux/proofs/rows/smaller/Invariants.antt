use Rattle.std.proofs.Common.{◌≡◌, ◌+◌, ◌≤◌, drop}
use Rattle.realisations.specs.Standardisation.{count_below}
use Rattle.tableaux.proofs.rows.smaller.Given as goal

abbrev pub invariant-loop-other : goal.invariant-loop-other
invariant-loop-other l = record {
  so_far : l.found + count_below l.letter (drop l.other-index l.letters) ≡ count_below l.letter l.letters;
  small : l.found ≤ l.other-index;
}
