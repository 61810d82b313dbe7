-- Points: where combinations are read, one for each component.
use Rattle.std.specs.Prelude.{ℕ, ◌≤◌, List, [], ◌∷◌}
use Rattle.std.specs.List.{AllByRecursion}
use Rattle.realisations.specs.Exponents.{without_zeros}
use Rattle.realisations.specs.Standardisation.{pack}

-- the points of an algebra: exponents for quasi-symmetric functions, and else words
pub data Kind : Type 0 where
  exponents word : Kind

-- a point: exponents, or the letters of a word
abbrev pub Point : Type 0
Point = List ℕ

-- a tuple of points, one for each component
abbrev pub Points : Type 0
Points = List Point

-- a point of a kind: any exponents, as of a monomial; a word over the ordered alphabet 1 < 2 < .., so that a letter raised by the greatest letter of another word is above it
abbrev pub IsPoint : Kind → Point → Type 0
IsPoint exponents p = Unit {0}
IsPoint word p = AllByRecursion (λ x. 1 ≤ x) p

-- a tuple of points, one of each kind
abbrev pub ArePoints : List Kind → Points → Type 0
ArePoints [] [] = Unit {0}
ArePoints [] (p ∷ ps) = ⊥
ArePoints (kind ∷ kinds) [] = ⊥
ArePoints (kind ∷ kinds) (p ∷ ps) = IsPoint kind p × ArePoints kinds ps

-- the pattern of a point, all that basis elements see of it: the exponents that are not 0 (Gessel 1984), or the packed word
abbrev pub pattern : Kind → Point → Point
pattern exponents p = without_zeros p
pattern word p = pack p

-- the patterns of a tuple of points, component by component; points past the kinds stay as they are
abbrev pub patterns : List Kind → Points → Points
patterns [] ps = ps
patterns (kind ∷ kinds) [] = []
patterns (kind ∷ kinds) (p ∷ ps) = pattern kind p ∷ patterns kinds ps
