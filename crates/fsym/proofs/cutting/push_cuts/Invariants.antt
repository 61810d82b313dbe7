use Rattle.std.proofs.Common.{◌≡◌, ◌++◌, drop}
use Rattle.std.specs.List.{flat_map}
use Rattle.coproduct_rules.specs.PlaceCuts.{place_cuts}
use Rattle.tableau_coproducts.specs.ClassCuts.{reading_pair}
use Rattle.fsym.proofs.cutting.push_cuts.Given as goal

abbrev pub invariant-loop-count : goal.invariant-loop-count
invariant-loop-count l = l.out.items ++ flat_map reading_pair (drop l.count (place_cuts l.word)) ≡ l.initial.out.items ++ flat_map reading_pair (place_cuts l.word)
