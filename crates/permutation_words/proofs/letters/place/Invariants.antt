use Rattle.std.proofs.Common.{◌≡◌, ◌+◌, drop}
use Rattle.realisations.specs.Standardisation.{place_of}
use Rattle.permutation_words.proofs.letters.place.Given as goal

abbrev pub invariant-loop-at : goal.invariant-loop-at
invariant-loop-at l = place_of l.x l.word ≡ l.at + place_of l.x (drop l.at l.word)
