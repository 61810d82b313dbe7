use Rattle.std.proofs.Common.{◌≡◌, ◌-◌}
use Rattle.std.specs.List.{All}
use Rattle.compositions.specs.Growth.{CanGrowBy, grown_times}
use Rattle.compositions.proofs.growth.grown_by.Given as goal

abbrev pub invariant-loop : goal.invariant-loop
invariant-loop l = (l.codes ≡ grown_times l.counter l.place l.fn.list) × All (CanGrowBy (l.count - l.counter)) l.codes
