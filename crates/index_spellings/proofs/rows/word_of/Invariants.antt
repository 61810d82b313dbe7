use Rattle.std.proofs.Common.{◌≡◌, ◌++◌, drop}
use Rattle.std.specs.List.{concat}
use Rattle.linear_combos.specs.Codes.{IsCode}
use Rattle.index_spellings.proofs.rows.word_of.Given as goal

abbrev pub invariant-loop-at : goal.invariant-loop-at
invariant-loop-at l = record {
  is_code : IsCode l.word;
  so_far : concat l.rows ≡ l.word ++ concat (drop l.at l.rows);
}
