use Rattle.linear_combos.proofs.Edits.{zero_canonical}
use Rattle.std.proofs.Common.{refl}
use Rattle.linear_combos.proofs.combo.Combo.zero.Goals as goal

pub invariant_of-result : goal.invariant_of-result
invariant_of-result c = rw c.new.ensures.items (zero_canonical c.args.rank, refl)
