use Rattle.std.proofs.Common.{◌≡◌, take}
use Rattle.realisations.specs.Combinations.{norm_of}
use Rattle.linear_combos.proofs.gather.norm.Given as goal

abbrev pub invariant-loop-term : goal.invariant-loop-term
invariant-loop-term l = l.norm ≡ norm_of (take l.term-index l.terms)
