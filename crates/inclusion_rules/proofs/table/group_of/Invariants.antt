use Rattle.std.proofs.Common.{◌≡◌, take}
use Rattle.inclusion_rules.specs.Table.{group}
use Rattle.inclusion_rules.proofs.table.group_of.Given as goal

abbrev pub invariant-loop-at : goal.invariant-loop-at
invariant-loop-at l = l.over ≡ group l.index (take l.at l.pairs)
