use Rattle.std.proofs.Common.{◌≡◌, ℕ, ◌<◌, ◌≤◌}
use Rattle.realisations.specs.Standardisation.{count_same}
use Rattle.permutation_words.proofs.letters.holds_each_once.Given as goal

abbrev pub invariant-loop-number : goal.invariant-loop-number
invariant-loop-number l = (k : ℕ) → 1 ≤ k → k < l.number → count_same k l.word ≡ 1
