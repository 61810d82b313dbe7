use Rattle.std.proofs.Common.{◌≡◌}
use Rattle.coproduct_laws.specs.Coproducts.{terms_of_pairs}
use Rattle.coproduct_rules.specs.DegreeCuts.{degree_cuts}
use Rattle.index_rules.specs.PushedTerms.{HoldsFirst}
use Rattle.qsym.proofs.cutting.push_cuts.Given as goal

abbrev pub invariant-loop-degree : goal.invariant-loop-degree
invariant-loop-degree l = record {
  holds : HoldsFirst (terms_of_pairs (degree_cuts l.parts)) l.degree l.out;
  rank : l.out.rank ≡ 2;
}
