use Rattle.std.proofs.Common.{◌≡◌, drop}
use Rattle.realisations.specs.Lists.{is_among}
use Rattle.packed_words.proofs.packing.among.Given as goal

abbrev pub invariant-loop-at : goal.invariant-loop-at
invariant-loop-at l = is_among l.x l.word ≡ is_among l.x (drop l.at l.word)
