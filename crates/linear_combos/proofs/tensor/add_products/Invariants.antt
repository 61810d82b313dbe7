use Rattle.std.proofs.Common.{◌≡◌}
use Rattle.linear_combos.specs.Merges.{AreProducts}
use Rattle.linear_combos.proofs.tensor.add_products.Given as goal

abbrev pub invariant-loop-left : goal.invariant-loop-left
invariant-loop-left l = record {
  products : AreProducts l.a.terms l.b.terms l.left 0 l.tensor.terms;
  same_rank : l.tensor.rank ≡ l.initial.tensor.rank;
  same_den : l.tensor.den ≡ l.initial.tensor.den;
}
