use Rattle.std.proofs.Common.{◌≡◌, ◌++◌, drop}
use Rattle.std.specs.List.{flat_map}
use Rattle.tableaux.specs.NumberedTableaux.{longer_codes}
use Rattle.tableaux.proofs.listing.longer.Given as goal

abbrev pub invariant-loop-at : goal.invariant-loop-at
invariant-loop-at l = l.more ++ flat_map longer_codes (drop l.at l.codes) ≡ flat_map longer_codes l.codes
