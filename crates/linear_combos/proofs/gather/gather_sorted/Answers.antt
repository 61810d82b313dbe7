use Rattle.std.proofs.Common.{subst, sym}
use Rattle.linear_combos.specs.Combos.{Gathers}
use Rattle.linear_combos.proofs.Sorted.{front_kept}
use Rattle.linear_combos.proofs.gather.gather_sorted.Goals as goal

pub returns : goal.returns
returns c = λ rank ranks.
    subst (Gathers rank c.args.terms.now.items) (sym c.keep.ensures)
    (front_kept rank c.args.terms.now.items c.gather_in_front-last.new.terms.items c.gather_in_front-last.result ranks c.requires.room c.gather_in_front-last.ensures)
