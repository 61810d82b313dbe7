use Rattle.permutation_words.proofs.ListsOfPlaces.{AreLeft}
use Rattle.permutation_words.proofs.interleaving.shuffles.Given as goal

abbrev pub invariant-loop-places : goal.invariant-loop-places
invariant-loop-places l = AreLeft l.a l.b l.codes l.places-iterator
