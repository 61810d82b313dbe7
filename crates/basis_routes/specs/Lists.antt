-- Lists of bases, as they are held, and with others in the place of a component.
use Rattle.std.specs.Prelude.{ℕ, suc, List, [], ◌∷◌, ◌++◌, take, drop}
use Rattle.basis_names.specs.declared.bases.BasisId.{BasisId}
use Rattle.basis_routes.specs.declared.bases.Held.{Held}
use Rattle.basis_routes.specs.declared.bases.Held.TheVariants.{None, One, Two, Three}

-- in the order of the components
abbrev pub bases_of : Held → List BasisId
bases_of None = []
bases_of (One a) = a ∷ []
bases_of (Two a b) = a ∷ b ∷ []
bases_of (Three a b c) = a ∷ b ∷ c ∷ []

-- others in the place of component n, counted from 0
abbrev pub replaced : ℕ → List BasisId → List BasisId → List BasisId
replaced n middle bases = take n bases ++ (middle ++ drop (suc n) bases)

-- component n twice
abbrev pub doubled : ℕ → List BasisId → List BasisId
doubled n bases = take (suc n) bases ++ drop n bases

-- component n is left out
abbrev pub without : ℕ → List BasisId → List BasisId
without n bases = take n bases ++ drop (suc n) bases
