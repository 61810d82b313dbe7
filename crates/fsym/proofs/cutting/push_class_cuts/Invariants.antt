use Rattle.std.proofs.Common.{◌≡◌, ◌++◌, drop}
use Rattle.tableau_coproducts.specs.ClassCuts.{class_cuts}
use Rattle.fsym.proofs.cutting.push_class_cuts.Given as goal

abbrev pub invariant-loop-at : goal.invariant-loop-at
invariant-loop-at l = l.out.items ++ class_cuts (drop l.at l.words) ≡ l.initial.out.items ++ class_cuts l.words
