use Rattle.std.proofs.Common.{◌≡◌, ◌≤◌, drop, length, take}
use Rattle.linear_combos.specs.Codes.{IsCode}
use Rattle.index_spellings.specs.Items.{rows_in}
use Rattle.index_spellings.proofs.RowsRead.{behind_rows, rest_of}
use Rattle.index_spellings.proofs.rows.rows_in.Given as goal

abbrev pub invariant-loop-item : goal.invariant-loop-item
invariant-loop-item l = record {
  is_code : IsCode l.row;
  few : l.len ≤ 12;
  room : length l.rows ≡ 12;
  so_far : rows_in l.items ≡ behind_rows (take l.len l.rows) (rest_of l.is_open l.row (drop l.item-index l.items));
}
