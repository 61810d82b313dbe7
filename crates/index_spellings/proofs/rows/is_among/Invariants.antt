use Rattle.std.proofs.Common.{◌≡◌, drop}
use Rattle.realisations.specs.Lists.{is_among}
use Rattle.index_spellings.proofs.rows.is_among.Given as goal

abbrev pub invariant-loop-at : goal.invariant-loop-at
invariant-loop-at l = is_among l.number l.row ≡ is_among l.number (drop l.at l.row)
