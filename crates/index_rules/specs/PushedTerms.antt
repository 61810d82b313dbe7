-- Nothing here need be believed: the terms of a list, pushed one by one, for the contracts of private functions.
use Rattle.std.specs.Prelude.{◌≡◌, ℕ, ◌≤◌, ℤ, take}
use Rattle.realisations.specs.Codes.{Key}
use Rattle.realisations.specs.Combinations.{Combination, HasKey, norm_of, weighed}
use Rattle.realisations.specs.Readings.{Terms}

-- the first i terms of a list were pushed: whatever the keys weigh
pub record HoldsFirst (ts : Terms) (i : ℕ) (c : Combination) : Type 0 where
  pub weighs : (weight : Key → ℤ) → weighed weight c.terms ≡ weighed weight (take i ts)
  pub norm : norm_of c.terms ≤ norm_of (take i ts)
  pub keys : (key : Key) → HasKey c.terms key → HasKey ts key
