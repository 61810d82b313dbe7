use Rattle.std.proofs.Common.{◌≡◌, ◌++◌, take, drop}
use Rattle.realisations.specs.Trees.{before_root, after_root}
use Rattle.index_spellings.proofs.texts.root_place.Given as goal

abbrev pub invariant-loop-at : goal.invariant-loop-at
invariant-loop-at l = record {
  in_front : take l.at l.code ++ before_root (drop l.at l.code) ≡ before_root l.code;
  after : after_root (drop l.at l.code) ≡ after_root l.code;
}
