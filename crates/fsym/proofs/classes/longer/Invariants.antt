use Rattle.std.proofs.Common.{◌≡◌, ◌++◌, drop}
use Rattle.std.specs.List.{flat_map}
use Rattle.fsym.specs.Classes.{longer_words}
use Rattle.fsym.proofs.classes.longer.Given as goal

abbrev pub invariant-loop-at : goal.invariant-loop-at
invariant-loop-at l = l.more ++ flat_map (longer_words l.class) (drop l.at l.words) ≡ flat_map (longer_words l.class) l.words
