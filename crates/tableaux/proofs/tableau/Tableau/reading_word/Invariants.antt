use Rattle.std.proofs.Common.{◌≡◌, ◌++◌, ◌-◌}
use Rattle.realisations.specs.Tableaux.{reading_word}
use Rattle.tableau_laws.specs.NumberedRows.{rows_by, rows_from}
use Rattle.tableaux.proofs.tableau.Tableau.reading_word.Given as goal

abbrev pub invariant-loop-later : goal.invariant-loop-later
invariant-loop-later l = l.word ++ reading_word (rows_from 1 (l.size - l.later) l.self-inside.letters.items l.self-inside.rows) ≡ reading_word (rows_by l.self-inside.letters.items l.self-inside.rows)
