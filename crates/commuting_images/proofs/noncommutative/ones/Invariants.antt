use Rattle.std.proofs.Common.{◌≡◌, replicate}
use Rattle.commuting_images.proofs.noncommutative.ones.Given as goal

abbrev pub invariant-loop : goal.invariant-loop
invariant-loop l = l.ones ≡ replicate l.counter 1
