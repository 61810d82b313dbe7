use Rattle.std.proofs.Common.{◌≡◌}
use Rattle.linear_combos.specs.Merges.{AreProducts}
use Rattle.linear_combos.proofs.tensor.add_row.Given as goal

abbrev pub invariant-loop-right : goal.invariant-loop-right
invariant-loop-right l = record {
  products : AreProducts l.a.terms l.b.terms l.left l.right l.tensor.terms;
  same_rank : l.tensor.rank ≡ l.initial.tensor.rank;
  same_den : l.tensor.den ≡ l.initial.tensor.den;
}
