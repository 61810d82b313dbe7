use Rattle.linear_combos.proofs.Edits.{lowest_one}
use Rattle.linear_combos.proofs.combo.Combo.numerators.Goals as goal

pub invariant_of-whole : goal.invariant_of-whole
invariant_of-whole c = (record { ordered = c.whole.invariant.0.ordered; lowest = lowest_one _ }, c.whole.invariant.1)
