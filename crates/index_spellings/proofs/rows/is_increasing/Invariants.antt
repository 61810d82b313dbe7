use Rattle.std.proofs.Common.{◌≡◌, drop}
use Rattle.realisations.specs.Tableaux.{is_increasing}
use Rattle.index_spellings.proofs.rows.is_increasing.Given as goal

abbrev pub invariant-loop-at : goal.invariant-loop-at
invariant-loop-at l = is_increasing l.rows ≡ is_increasing (drop l.at l.rows)
