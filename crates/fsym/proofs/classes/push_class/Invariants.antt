use Rattle.std.proofs.Common.{◌≡◌, ◌++◌, drop}
use Rattle.std.specs.List.{filter}
use Rattle.fsym.specs.Classes.{has_class}
use Rattle.fsym.proofs.classes.push_class.Given as goal

abbrev pub invariant-loop-at : goal.invariant-loop-at
invariant-loop-at l = l.out ++ filter (λ s. has_class l.class s) (drop l.at l.words) ≡ l.initial.out ++ filter (λ s. has_class l.class s) l.words
