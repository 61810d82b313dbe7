use Rattle.std.proofs.Common.{◌≡◌, ◌-◌, drop}
use Rattle.realisations.specs.Tableaux.{rises}
use Rattle.index_spellings.proofs.rows.rises.Given as goal

abbrev pub invariant-loop-at : goal.invariant-loop-at
invariant-loop-at l = rises l.row ≡ rises (drop (l.at - 1) l.row)
