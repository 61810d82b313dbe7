use Rattle.std.proofs.Common.{◌+◌, ◌-◌}
use Rattle.realisations.specs.Words.{greatest}
use Rattle.packed_words.proofs.merging.+push_merges.Given as goal

abbrev pub decreases-push_merges : goal.decreases-push_merges
decreases-push_merges l = greatest l.u.now + greatest l.v.now - (l.n + l.n)
