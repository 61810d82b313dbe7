use Rattle.std.proofs.Common.{◌+◌, ◌*◌}
use Rattle.antipodes.specs.Subtracting.{AreSubtracted}
use Rattle.realisations.specs.Indices.{degree_of}
use Rattle.antipodes.proofs.recursion.+antipode.Given as goal

abbrev pub decreases-antipode : goal.decreases-antipode
decreases-antipode g l = 5 * degree_of g.A.Space.basis l.code.now + 4

abbrev pub decreases-by_recursion : goal.decreases-by_recursion
decreases-by_recursion g l = 5 * degree_of g.A.Space.basis l.code.now + 3

abbrev pub decreases-turned : goal.decreases-turned
decreases-turned g l = 5 * degree_of g.A.Space.basis l.code.now + 2

abbrev pub decreases-subtract_terms : goal.decreases-subtract_terms
decreases-subtract_terms g l = 5 * degree_of g.A.Space.basis l.code.now + 1

abbrev pub decreases-subtract_term : goal.decreases-subtract_term
decreases-subtract_term g l = 5 * degree_of g.A.Space.basis l.code.now

abbrev pub invariant-subtract_terms-loop-at : goal.invariant-subtract_terms-loop-at
invariant-subtract_terms-loop-at g l = AreSubtracted g.A.Space.basis l.code l.pairs.terms l.at l.out
