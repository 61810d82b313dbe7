use Rattle.compositions.specs.QuasiShuffles.{AddsBehind}
use Rattle.compositions.proofs.products.add_behind.Given as goal

abbrev pub invariant-loop-at : goal.invariant-loop-at
invariant-loop-at l = AddsBehind l.first l.rest.terms l.at l.initial.out l.out
