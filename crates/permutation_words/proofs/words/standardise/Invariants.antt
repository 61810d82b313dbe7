use Rattle.std.proofs.Common.{◌≡◌, take}
use Rattle.realisations.specs.Standardisation.{standardise}
use Rattle.permutation_words.proofs.words.standardise.Given as goal

abbrev pub invariant-loop-at : goal.invariant-loop-at
invariant-loop-at l = l.letters ≡ take l.at (standardise l.word)
