use Rattle.std.proofs.Common.{◌≡◌, take}
use Rattle.realisations.specs.Standardisation.{pack}
use Rattle.packed_words.proofs.packing.pack.Given as goal

abbrev pub invariant-loop-at : goal.invariant-loop-at
invariant-loop-at l = l.letters ≡ take l.at (pack l.word)
