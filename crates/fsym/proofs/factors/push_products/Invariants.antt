use Rattle.std.proofs.Common.{◌≡◌, ◌++◌, drop}
use Rattle.std.specs.List.{filter}
use Rattle.fsym.specs.Products.{has_factors}
use Rattle.fsym.proofs.factors.push_products.Given as goal

abbrev pub invariant-loop-at : goal.invariant-loop-at
invariant-loop-at l = l.out ++ filter (λ c. has_factors l.left l.right c) (drop l.at l.codes) ≡ l.initial.out ++ filter (λ c. has_factors l.left l.right c) l.codes
