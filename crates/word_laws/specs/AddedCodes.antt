-- Lists of codes to which the codes with a property were added.
use Rattle.std.specs.Prelude.{◌≡◌, ℕ, ◌+◌, ◌⊎◌, List, [], ◌∷◌}
use Rattle.realisations.specs.Codes.{Code}
use Rattle.realisations.specs.Lists.{same_list, one_if}

-- how often a code is in a list
abbrev pub times_in : Code → List Code → ℕ
times_in code [] = 0
times_in code (c ∷ codes) = one_if (same_list code c) + times_in code codes

-- each code with the property is there once more than before, and each other one as often
abbrev pub AddsEach : (Code → Type 0) → List Code → List Code → Type 0
AddsEach P old new = (code : Code) → (P code × (times_in code new ≡ times_in code old + 1)) ⊎ ((P code → ⊥) × (times_in code new ≡ times_in code old))
