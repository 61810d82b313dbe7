use Rattle.std.proofs.Common.{◌≡◌, ◌≤◌}
use Rattle.coproduct_laws.specs.Coproducts.{terms_of_pairs}
use Rattle.index_rules.specs.PushedTerms.{HoldsFirst}
use Rattle.realisations.specs.Combinations.{norm_of}
use Rattle.fsym.proofs.cutting.gathered.Given as goal

abbrev pub invariant-loop-pair : goal.invariant-loop-pair
invariant-loop-pair l = record {
  holds : HoldsFirst (terms_of_pairs l.pairs) l.pair-index l.out;
  norm : norm_of l.out.terms ≤ l.pair-index;
  rank : l.out.rank ≡ 2;
}
