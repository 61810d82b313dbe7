use Rattle.std.proofs.Common.{◌≡◌, ◌*◌, ◌≤◌, take}
use Rattle.std.specs.List.{sum}
use Rattle.linear_combos.proofs.code.Code.sum.Given as goal

abbrev pub invariant-loop-at : goal.invariant-loop-at
invariant-loop-at l = record {
  so_far : l.total ≡ sum (take l.at l.self);
  small : l.total ≤ 255 * l.at;
}
