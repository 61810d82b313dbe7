use Rattle.std.proofs.Common.{◌+◌, ◌-◌}
use Rattle.realisations.specs.Words.{greatest}
use Rattle.permutation_words.proofs.convolving.+push_convolutions.Given as goal

abbrev pub decreases-push_convolutions : goal.decreases-push_convolutions
decreases-push_convolutions l = greatest l.u.now + greatest l.v.now - (l.n + l.n)
