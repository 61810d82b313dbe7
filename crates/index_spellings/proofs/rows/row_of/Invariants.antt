use Rattle.std.proofs.Common.{◌≡◌, ◌+◌, drop}
use Rattle.realisations.specs.Tableaux.{row_of}
use Rattle.index_spellings.proofs.rows.row_of.Given as goal

abbrev pub invariant-loop-at : goal.invariant-loop-at
invariant-loop-at l = row_of l.number l.rows ≡ l.at + row_of l.number (drop l.at l.rows)
