use Rattle.std.proofs.Common.{◌≡◌, ◌++◌, drop}
use Rattle.coproduct_laws.specs.ValueCuts.{letters_up_to}
use Rattle.packed_words.proofs.cutting.low_letters.Given as goal

abbrev pub invariant-loop-at : goal.invariant-loop-at
invariant-loop-at l = letters_up_to l.k l.word ≡ l.low ++ letters_up_to l.k (drop l.at l.word)
