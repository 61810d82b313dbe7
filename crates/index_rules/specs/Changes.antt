-- Changes of basis and operations on elements, as rules.
use Rattle.std.specs.Prelude.{ℕ, refl, List, [], ◌∷◌}
use Rattle.basis_names.specs.declared.bases.BasisId.{BasisId}
use Rattle.index_rules.specs.Rules.{RuleFacts}
use Rattle.realisations.specs.Readings.{Operation, applied, element}

-- the change from one basis to another
abbrev pub change_facts : BasisId → BasisId → ℕ → ℕ → RuleFacts
change_facts from to most growth = record { basis = from; most = most; bases = to ∷ []; growth = growth; reading = λ code. element from code; whole = λ code. refl }

-- what an operation makes of the elements of a basis, over these bases
abbrev pub operation_facts : Operation → BasisId → List BasisId → ℕ → ℕ → RuleFacts
operation_facts operation from bases most growth = record { basis = from; most = most; bases = bases; growth = growth; reading = λ code. applied operation 0 (element from code); whole = λ code. refl }
