use Rattle.std.proofs.Common.{◌≡◌, ◌≤◌, [], take}
use Rattle.realisations.specs.Combinations.{norm_of}
use Rattle.coproduct_laws.specs.AddedPairs.{AddsPairs}
use Rattle.binary_trees.proofs.upper_parts.gathered.Given as goal

abbrev pub invariant-loop-pair : goal.invariant-loop-pair
invariant-loop-pair l = record {
  adds : AddsPairs [] l.out.terms (take l.pair-index l.pairs);
  norm : norm_of l.out.terms ≤ l.pair-index;
  rank : l.out.rank ≡ 2;
}
