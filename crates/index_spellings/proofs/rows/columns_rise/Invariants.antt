use Rattle.std.proofs.Common.{◌≡◌, drop}
use Rattle.index_spellings.specs.KeptRows.{columns_rise}
use Rattle.index_spellings.proofs.rows.columns_rise.Given as goal

abbrev pub invariant-loop-at : goal.invariant-loop-at
invariant-loop-at l = columns_rise l.above l.below ≡ columns_rise (drop l.at l.above) (drop l.at l.below)
