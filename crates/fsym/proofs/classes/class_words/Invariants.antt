use Rattle.std.proofs.Common.{take}
use Rattle.tableau_coproducts.specs.ClassCuts.{ListsClass}
use Rattle.fsym.proofs.classes.class_words.Given as goal

abbrev pub invariant-loop-size : goal.invariant-loop-size
invariant-loop-size l = ListsClass (take l.size l.class) l.words
