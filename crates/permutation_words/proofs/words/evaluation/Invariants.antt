use Rattle.std.proofs.Common.{◌≡◌, ◌-◌, take}
use Rattle.permutation_words.specs.Evaluations.{evaluation}
use Rattle.permutation_words.proofs.words.evaluation.Given as goal

abbrev pub invariant-loop-letter : goal.invariant-loop-letter
invariant-loop-letter l = l.counts ≡ take (l.letter - 1) (evaluation l.word)
