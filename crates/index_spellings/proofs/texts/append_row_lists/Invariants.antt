use Rattle.std.proofs.Common.{◌≡◌, ◌-◌, ◌++◌, drop, map}
use Rattle.realisations.specs.Tableaux.{rows_of}
use Rattle.index_spellings.specs.Texts.{comma_separated, list_text}
use Rattle.index_spellings.proofs.TextsInTurn.{later_texts}
use Rattle.index_spellings.proofs.texts.append_row_lists.Given as goal

abbrev pub invariant-loop-row : goal.invariant-loop-row
invariant-loop-row l = l.out ++ later_texts (drop (l.row - 1) (map list_text (rows_of l.code))) ≡ l.fn.out ++ comma_separated (map list_text (rows_of l.code))
