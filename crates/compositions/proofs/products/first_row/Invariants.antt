use Rattle.std.proofs.Common.{[]}
use Rattle.compositions.specs.QuasiShuffles.{AreProducts}
use Rattle.compositions.proofs.products.first_row.Given as goal

abbrev pub invariant-loop-len : goal.invariant-loop-len
invariant-loop-len l = AreProducts [] l.b l.len l.row.items
