use Rattle.std.proofs.Common.{◌≡◌, reverse, take}
use Rattle.compositions.proofs.conjugation.reversed.Given as goal

abbrev pub invariant-loop-at : goal.invariant-loop-at
invariant-loop-at l = l.back ≡ reverse (take l.at l.parts)
