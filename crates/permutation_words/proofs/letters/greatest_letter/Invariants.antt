use Rattle.std.proofs.Common.{◌≡◌, ◌≤◌, drop}
use Rattle.std.specs.Prelude.{max}
use Rattle.realisations.specs.Words.{greatest}
use Rattle.permutation_words.proofs.letters.greatest_letter.Given as goal

abbrev pub invariant-loop-at : goal.invariant-loop-at
invariant-loop-at l = record {
  so_far : greatest l.word ≡ max l.most (greatest (drop l.at l.word));
  small : l.most ≤ 15;
}
