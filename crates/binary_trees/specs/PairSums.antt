-- Combinations of rank 2 that are sums of pairs of codes.
use Rattle.std.specs.Prelude.{◌≡◌, ◌≤◌, List, [], length}
use Rattle.realisations.specs.Codes.{Code}
use Rattle.realisations.specs.Combinations.{Combination, norm_of}
use Rattle.coproduct_laws.specs.AddedPairs.{AddsPairs}

-- the sum of the tensors of the pairs, over 1: whatever the keys weigh, its terms weigh as the pairs, and each of its keys is a pair; so the coefficient of a key is how often it is a pair
pub record IsSumOfPairs (pairs : List (Code × Code)) (c : Combination) : Type 0 where
  pub rank : c.rank ≡ 2
  pub whole : c.den ≡ 1
  pub adds : AddsPairs [] c.terms pairs
  pub norm : norm_of c.terms ≤ length pairs
