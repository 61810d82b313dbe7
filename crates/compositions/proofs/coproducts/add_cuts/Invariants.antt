use Rattle.std.proofs.Common.{◌≡◌, ◌+◌, ◌≤◌, take}
use Rattle.realisations.specs.Combinations.{norm_of}
use Rattle.realisations.specs.Words.{word_cuts}
use Rattle.coproduct_laws.specs.AddedPairs.{AddsPairs}
use Rattle.compositions.proofs.coproducts.add_cuts.Given as goal

abbrev pub invariant-loop-at : goal.invariant-loop-at
invariant-loop-at l = record {
  adds : AddsPairs l.fn.out.terms l.out.terms (take l.at (word_cuts l.code));
  norm : norm_of l.out.terms ≤ norm_of l.fn.out.terms + l.at;
  rank : l.out.rank ≡ 2;
  whole : l.out.den ≡ 1;
}
