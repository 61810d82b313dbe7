use Rattle.std.proofs.Common.{◌≡◌, ◌++◌, drop}
use Rattle.tableau_laws.specs.NumberedRows.{bumped}
use Rattle.tableaux.proofs.rows.bump.Given as goal

abbrev pub invariant-loop-at : goal.invariant-loop-at
invariant-loop-at l = l.out ++ bumped l.entered (drop l.at l.rows) ≡ l.front ++ bumped 1 l.rows
