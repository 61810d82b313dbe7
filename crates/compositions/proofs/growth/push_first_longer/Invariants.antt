use Rattle.std.proofs.Common.{◌≡◌, ◌++◌, map, take}
use Rattle.realisations.specs.Descents.{longer_first}
use Rattle.compositions.proofs.growth.push_first_longer.Given as goal

abbrev pub invariant-loop-at : goal.invariant-loop-at
invariant-loop-at l = l.longer ≡ l.fn.longer ++ map longer_first (take l.at l.list)
