use Rattle.std.proofs.Common.{◌≡◌, ◌+◌, ◌≤◌, drop}
use Rattle.realisations.specs.Standardisation.{count_same}
use Rattle.permutation_words.proofs.letters.number_of.Given as goal

abbrev pub invariant-loop-at : goal.invariant-loop-at
invariant-loop-at l = record {
  so_far : count_same l.x l.word ≡ l.found + count_same l.x (drop l.at l.word);
  small : l.found ≤ l.at;
}
