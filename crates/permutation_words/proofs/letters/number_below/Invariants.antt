use Rattle.std.proofs.Common.{◌≡◌, ◌+◌, ◌≤◌, drop}
use Rattle.realisations.specs.Standardisation.{count_below}
use Rattle.permutation_words.proofs.letters.number_below.Given as goal

abbrev pub invariant-loop-at : goal.invariant-loop-at
invariant-loop-at l = record {
  so_far : count_below l.x l.word ≡ l.found + count_below l.x (drop l.at l.word);
  small : l.found ≤ l.at;
}
