use Rattle.std.proofs.Common.{◌≡◌, length, take}
use Rattle.linear_combos.proofs.code.Code.unpacked.Given as goal

abbrev pub invariant-loop-at : goal.invariant-loop-at
invariant-loop-at l = record { so_far : take l.at l.letters ≡ take l.at l.self; room : length l.letters ≡ 15 }
