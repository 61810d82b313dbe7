use Rattle.std.proofs.Common.{◌≡◌}
use Rattle.coproduct_laws.specs.Coproducts.{terms_of_pairs}
use Rattle.coproduct_laws.specs.ValueCuts.{value_cuts}
use Rattle.index_rules.specs.PushedTerms.{HoldsFirst}
use Rattle.fqsym.proofs.cutting.push_value_cuts.Given as goal

abbrev pub invariant-loop-most : goal.invariant-loop-most
invariant-loop-most l = record {
  holds : HoldsFirst (terms_of_pairs (value_cuts l.word)) l.most l.out;
  rank : l.out.rank ≡ 2;
}
