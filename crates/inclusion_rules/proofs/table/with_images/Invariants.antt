use Rattle.std.proofs.Common.{◌≡◌, map, take}
use Rattle.inclusion_rules.proofs.table.with_images.Given as goal

abbrev pub invariant-loop-at : goal.invariant-loop-at
invariant-loop-at g l = l.pairs.items ≡ map (λ code. (g.A.InclusionIn.image code, code)) (take l.at l.all)
