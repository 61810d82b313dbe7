use Rattle.std.proofs.Common.{◌≡◌, ◌++◌, ℕ, List, map, take}
use Rattle.ncsf.proofs.ribbon_cuts.push_turned.Given as goal

abbrev pub invariant-loop-at : goal.invariant-loop-at
invariant-loop-at l = l.longer.items ≡ l.fn.longer.items ++ map (λ (e : List ℕ × List ℕ). (e.1, e.0)) (take l.at l.pairs.items)
