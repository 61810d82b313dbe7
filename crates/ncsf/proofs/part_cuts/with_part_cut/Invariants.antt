use Rattle.std.proofs.Common.{◌≡◌, map, take}
use Rattle.std.specs.List.{flat_map}
use Rattle.realisations.specs.Exponents.{number_cuts}
use Rattle.ncsf.specs.PairLists.{with_parts}
use Rattle.ncsf.proofs.part_cuts.with_part_cut.Given as goal

abbrev pub invariant-loop-left : goal.invariant-loop-left
invariant-loop-left l = l.longer.items ≡ flat_map (λ c. map (λ e. with_parts c.0 c.1 e) l.pairs.items) (take l.left (number_cuts l.part))
