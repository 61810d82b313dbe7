use Rattle.std.proofs.Common.{◌≡◌, ◌-◌, take}
use Rattle.realisations.specs.Standardisation.{inverse}
use Rattle.permutation_words.proofs.permutation.places.Given as goal

abbrev pub invariant-loop-letter : goal.invariant-loop-letter
invariant-loop-letter l = l.places ≡ take (l.letter - 1) (inverse l.word)
