use Rattle.std.proofs.Common.{◌≡◌}
use Rattle.coproduct_laws.specs.Coproducts.{terms_of_pairs}
use Rattle.coproduct_rules.specs.PlaceCuts.{place_cuts}
use Rattle.index_rules.specs.PushedTerms.{HoldsFirst}
use Rattle.fqsym.proofs.cutting.push_place_cuts.Given as goal

abbrev pub invariant-loop-count : goal.invariant-loop-count
invariant-loop-count l = record {
  holds : HoldsFirst (terms_of_pairs (place_cuts l.word)) l.count l.out;
  rank : l.out.rank ≡ 2;
}
