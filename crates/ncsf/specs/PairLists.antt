-- Nothing here need be believed: how the code lists pairs of compositions. The public contracts speak of the coproducts of readings alone.
use Rattle.std.specs.Prelude.{ℕ, zero, suc, ◌+◌, ◌-◌, ◌≤◌, Bool, true, false, not, List, [], ◌∷◌, ◌++◌, map}
use Rattle.std.specs.List.{All, flat_map, sum}
use Rattle.realisations.specs.Descents.{longer_first}
use Rattle.realisations.specs.Exponents.{number_cuts, without_zeros}
use Rattle.realisations.specs.IndexKinds.{IsComposition}
use Rattle.realisations.specs.Pairings.{longer_compositions}

-- n letters fit in front of both together
pub record CanGrowBy (n : ℕ) (e : List ℕ × List ℕ) : Type 0 where
  pub first : IsComposition e.0
  pub second : IsComposition e.1
  pub room : sum e.0 + sum e.1 + n ≤ 12

-- one part more in front of either, where that is not 0
abbrev pub with_parts : ℕ → ℕ → List ℕ × List ℕ → List ℕ × List ℕ
with_parts a b e = (without_zeros (a ∷ []) ++ e.0, without_zeros (b ∷ []) ++ e.1)

-- one part more, cut in all ways
abbrev pub with_part_cut : ℕ → List (List ℕ × List ℕ) → List (List ℕ × List ℕ)
with_part_cut part pairs = flat_map (λ c. map (λ e. with_parts c.0 c.1 e) pairs) (number_cuts part)

-- a composition with one letter more in front: a part of its own where the letter falls to the next one, and else in the first part
abbrev pub with_letter : Bool → List ℕ → List ℕ
with_letter true parts = 1 ∷ parts
with_letter false parts = longer_first parts

-- pairs for the words that begin with a low letter, and for those that begin with a high one: the composition of the letters of that kind, and that of the others
pub record Sides : Type 0 where
  pub low : List (List ℕ × List ℕ)
  pub high : List (List ℕ × List ℕ)

-- n letters fit in front of each pair
pub record SidesGrowBy (n : ℕ) (sides : Sides) : Type 0 where
  pub low : All (CanGrowBy n) sides.low
  pub high : All (CanGrowBy n) sides.high

-- a letter before one of its own kind
abbrev pub before_own : Bool → List (List ℕ × List ℕ) → List (List ℕ × List ℕ)
before_own falls own = map (λ e. (with_letter falls e.0, e.1)) own

-- a letter before one of the other kind: whether it falls to the next one of its own kind is open
abbrev pub before_other : List (List ℕ × List ℕ) → List (List ℕ × List ℕ)
before_other other = flat_map (λ e. map (λ parts. (parts, e.0)) (longer_compositions e.1)) other

-- a letter of one kind before all of these, where it may stand before the other kind or not
abbrev pub with_side_letter : Bool → Bool → List (List ℕ × List ℕ) → List (List ℕ × List ℕ) → List (List ℕ × List ℕ)
with_side_letter falls true own other = before_own falls own ++ before_other other
with_side_letter falls false own other = before_own falls own

-- one letter more in front, that falls to the next one or not: a low letter never falls to a high one, and a high one always to a low one
abbrev pub with_first_letter : Bool → Sides → Sides
with_first_letter falls sides =
    record { low = with_side_letter falls (not falls) sides.low sides.high; high = with_side_letter falls falls sides.high sides.low }

-- n letters more, none of which falls
abbrev pub with_letters : ℕ → Sides → Sides
with_letters zero sides = sides
with_letters (suc n) sides = with_first_letter false (with_letters n sides)

-- there are parts
abbrev pub has_parts : List ℕ → Bool
has_parts [] = false
has_parts (i ∷ parts) = true

-- the pairs for the words with a descent composition, letter by letter from the last one
abbrev pub sides_of : List ℕ → Sides
sides_of [] = record { low = []; high = ([], []) ∷ [] }
sides_of (i ∷ parts) = with_letters (i - 1) (with_first_letter (has_parts parts) (sides_of parts))

-- all of these, the composition of the low letters first
abbrev pub ribbon_pairs : List ℕ → List (List ℕ × List ℕ)
ribbon_pairs parts = (sides_of parts).low ++ map (λ e. (e.1, e.0)) (sides_of parts).high
