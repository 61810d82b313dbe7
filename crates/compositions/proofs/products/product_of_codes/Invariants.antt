use Rattle.std.proofs.Common.{◌+◌, ◌-◌, length, drop}
use Rattle.compositions.specs.QuasiShuffles.{AreProducts}
use Rattle.compositions.proofs.products.product_of_codes.Given as goal

abbrev pub invariant-loop-len : goal.invariant-loop-len
invariant-loop-len l = AreProducts (drop (length l.a - l.len) l.a) l.b (length l.b + 1) l.row.items
