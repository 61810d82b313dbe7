use Rattle.std.proofs.Common.{◌≡◌, drop}
use Rattle.linear_combos.specs.Codes.{IsCode}
use Rattle.index_spellings.specs.Items.{numbers_in}
use Rattle.index_spellings.proofs.Spellings.{behind}
use Rattle.index_spellings.proofs.lists.code_in.Given as goal

abbrev pub invariant-loop-item : goal.invariant-loop-item
invariant-loop-item l = IsCode l.code × (numbers_in l.items ≡ behind l.code (numbers_in (drop l.item-index l.items)))
