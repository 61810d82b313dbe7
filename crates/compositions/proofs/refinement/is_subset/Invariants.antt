use Rattle.std.proofs.Common.{◌≡◌, drop}
use Rattle.realisations.specs.Lists.{is_subset}
use Rattle.compositions.proofs.refinement.is_subset.Given as goal

abbrev pub invariant-loop-at : goal.invariant-loop-at
invariant-loop-at l = is_subset l.numbers l.others ≡ is_subset (drop l.at l.numbers) l.others
