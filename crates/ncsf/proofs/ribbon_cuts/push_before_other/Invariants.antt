use Rattle.std.proofs.Common.{◌≡◌, ◌++◌, take}
use Rattle.ncsf.specs.PairLists.{before_other}
use Rattle.ncsf.proofs.ribbon_cuts.push_before_other.Given as goal

abbrev pub invariant-loop-at : goal.invariant-loop-at
invariant-loop-at l = l.longer.items ≡ l.fn.longer.items ++ before_other (take l.at l.other.items)
