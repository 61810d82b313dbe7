use Rattle.std.proofs.Common.{◌≡◌, ◌++◌, drop}
use Rattle.tableau_laws.specs.NumberedRows.{letters_in}
use Rattle.tableaux.proofs.rows.with_row.Given as goal

abbrev pub invariant-loop-at : goal.invariant-loop-at
invariant-loop-at l = l.out ++ letters_in l.row (drop l.at l.letters) (drop l.at l.rows) ≡ l.word ++ letters_in l.row l.letters l.rows
