-- Nothing here need be believed: it serves proofs. Compositions as bits: a composition of n + 1 is its set of descents, one bit for each of the places 1 to n.
use Rattle.std.specs.Prelude.{ℕ, zero, suc, Bool, true, false, not, List, [], ◌∷◌, ◌++◌, map, replicate}
use Rattle.realisations.specs.Descents.{longer_first}

-- the composition with a descent at each place whose bit is set
abbrev pub composition_of : List Bool → List ℕ
composition_of [] = 1 ∷ []
composition_of (true ∷ bits) = 1 ∷ composition_of bits
composition_of (false ∷ bits) = longer_first (composition_of bits)

-- a part in front: as many bits as it has places inside, none of them set
abbrev pub inside : ℕ → List Bool
inside zero = []
inside (suc n) = replicate n false

-- the bits of a composition: set at the places of its proper partial sums
abbrev pub bits_of : List ℕ → List Bool
bits_of [] = []
bits_of (i ∷ []) = inside i
bits_of (i ∷ j ∷ parts) = inside i ++ true ∷ bits_of (j ∷ parts)

-- the composition whose descents are the places outside those of a composition
abbrev pub turned_composition : List ℕ → List ℕ
turned_composition [] = []
turned_composition (i ∷ parts) = composition_of (map (λ bit. not bit) (bits_of (i ∷ parts)))
