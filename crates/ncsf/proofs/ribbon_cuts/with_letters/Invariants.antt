use Rattle.std.proofs.Common.{◌≡◌, ◌-◌}
use Rattle.ncsf.specs.PairLists.{SidesGrowBy, with_letters}
use Rattle.ncsf.proofs.ribbon_cuts.with_letters.Given as goal

abbrev pub invariant-loop : goal.invariant-loop
invariant-loop l = (l.longer ≡ with_letters l.counter l.fn.sides) × SidesGrowBy (l.count - l.counter) l.longer
