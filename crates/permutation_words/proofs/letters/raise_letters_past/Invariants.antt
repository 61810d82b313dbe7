use Rattle.std.proofs.Common.{◌≡◌, take}
use Rattle.word_laws.specs.Spreads.{raise_past}
use Rattle.permutation_words.proofs.letters.raise_letters_past.Given as goal

abbrev pub invariant-loop-at : goal.invariant-loop-at
invariant-loop-at l = l.raised ≡ take l.at (raise_past l.n l.word)
