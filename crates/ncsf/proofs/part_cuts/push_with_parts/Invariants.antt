use Rattle.std.proofs.Common.{◌≡◌, ◌++◌, map, take}
use Rattle.ncsf.specs.PairLists.{with_parts}
use Rattle.ncsf.proofs.part_cuts.push_with_parts.Given as goal

abbrev pub invariant-loop-at : goal.invariant-loop-at
invariant-loop-at l = l.longer.items ≡ l.fn.longer.items ++ map (λ e. with_parts l.left l.right e) (take l.at l.pairs.items)
