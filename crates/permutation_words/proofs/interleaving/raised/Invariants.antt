use Rattle.std.proofs.Common.{◌≡◌, take}
use Rattle.realisations.specs.Words.{raise}
use Rattle.permutation_words.proofs.interleaving.raised.Given as goal

abbrev pub invariant-loop-at : goal.invariant-loop-at
invariant-loop-at l = l.out ≡ take l.at (raise l.by l.code)
