use Rattle.linear_combos.proofs.Edits.{lowest_one}
use Rattle.linear_combos.proofs.combo.Combo.whole.Goals as goal

pub invariant_of-result : goal.invariant_of-result
invariant_of-result c = (record { ordered = c.requires.terms; lowest = lowest_one c.args.terms.items }, c.requires.norm)
