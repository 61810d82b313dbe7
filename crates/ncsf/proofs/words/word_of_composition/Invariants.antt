use Rattle.std.proofs.Common.{◌≡◌, ◌++◌, drop}
use Rattle.realisations.specs.Descents.{word_of_composition}
use Rattle.ncsf.proofs.words.word_of_composition.Given as goal

abbrev pub invariant-loop-at : goal.invariant-loop-at
invariant-loop-at l = l.word ++ word_of_composition (drop l.at l.parts) ≡ word_of_composition l.parts
