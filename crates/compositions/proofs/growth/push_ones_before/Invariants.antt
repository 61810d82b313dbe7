use Rattle.std.proofs.Common.{◌≡◌, ◌++◌, ◌∷◌, map, take}
use Rattle.compositions.proofs.growth.push_ones_before.Given as goal

abbrev pub invariant-loop-at : goal.invariant-loop-at
invariant-loop-at l = l.longer ≡ l.fn.longer ++ map (λ parts. 1 ∷ parts) (take l.at l.list)
