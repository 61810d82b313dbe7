use Rattle.std.proofs.Common.{◌≡◌, ◌+◌, ◌≤◌, drop}
use Rattle.realisations.specs.Standardisation.{rank_in}
use Rattle.packed_words.proofs.packing.rank.Given as goal

abbrev pub invariant-loop-at : goal.invariant-loop-at
invariant-loop-at l = record {
  so_far : rank_in l.word l.x ≡ l.found + rank_in (drop l.at l.word) l.x;
  small : l.found ≤ l.at;
}
