use Rattle.std.proofs.Common.{◌≡◌}
use Rattle.change_laws.specs.Changes.{signed_terms}
use Rattle.index_rules.specs.PushedTerms.{HoldsFirst}
use Rattle.index_rules.specs.SignedSums.{signs_of}
use Rattle.index_rules.proofs.sums.push_signed.Given as goal

abbrev pub invariant-loop-at : goal.invariant-loop-at
invariant-loop-at l = record {
  holds : HoldsFirst (signed_terms (signs_of l.signs) l.codes) l.at l.out;
  rank : l.out.rank ≡ 1;
}
