use Rattle.std.proofs.Common.{length, ◌-◌}
use Rattle.hopf_ops.proofs.gather.+product_behind.Given as goal

abbrev pub decreases-product_behind : goal.decreases-product_behind
decreases-product_behind l = length l.bases.now - l.skipped
