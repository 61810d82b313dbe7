use Rattle.std.proofs.Common.{◌≡◌, ◌++◌, drop}
use Rattle.coproduct_laws.specs.ValueCuts.{letters_past, lower}
use Rattle.packed_words.proofs.cutting.lowered_letters.Given as goal

abbrev pub invariant-loop-at : goal.invariant-loop-at
invariant-loop-at l = lower l.k (letters_past l.k l.word) ≡ l.high ++ lower l.k (letters_past l.k (drop l.at l.word))
