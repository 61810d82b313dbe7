-- Compositions cut part by part.
use Rattle.std.specs.Prelude.{ℕ, List, map}
use Rattle.realisations.specs.Exponents.{exponent_cuts, without_zeros}

-- for each way to write every part as a sum of two numbers, the first ones and the second ones, without the zeros
abbrev pub part_cuts : List ℕ → List (List ℕ × List ℕ)
part_cuts parts = map (λ c. (without_zeros c.0, without_zeros c.1)) (exponent_cuts parts)
