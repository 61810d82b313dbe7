use Rattle.std.proofs.Common.{◌≡◌, ◌+◌, ◌++◌, drop}
use Rattle.realisations.specs.Tableaux.{places_of}
use Rattle.index_spellings.proofs.texts.places_of.Given as goal

abbrev pub invariant-loop-at : goal.invariant-loop-at
invariant-loop-at l = places_of l.letter 1 l.code ≡ l.places ++ places_of l.letter (l.at + 1) (drop l.at l.code)
