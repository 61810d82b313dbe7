use Rattle.std.proofs.Common.{◌≡◌}
use Rattle.coproduct_laws.specs.Coproducts.{terms_of_pairs}
use Rattle.index_rules.specs.PushedTerms.{HoldsFirst}
use Rattle.ncsf.proofs.pairs.push_tensors.Given as goal

abbrev pub invariant-loop-at : goal.invariant-loop-at
invariant-loop-at l = record {
  holds : HoldsFirst (terms_of_pairs l.pairs.items) l.at l.out;
  rank : l.out.rank ≡ 2;
}
