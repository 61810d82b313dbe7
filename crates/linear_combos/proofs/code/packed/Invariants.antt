use Rattle.std.proofs.Common.{◌≡◌, take}
use Rattle.linear_combos.specs.Packing.{word_of}
use Rattle.linear_combos.proofs.code.packed.Given as goal

abbrev pub invariant-loop-at : goal.invariant-loop-at
invariant-loop-at l = l.word ≡ word_of (take l.at l.letters)
