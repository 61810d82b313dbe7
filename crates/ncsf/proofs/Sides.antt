-- The pairs for the words with a descent composition are pairs of compositions that add to it, and can grow.
use Rattle.std.proofs.Common.{◌≡◌, ℕ, zero, suc, ◌+◌, ◌-◌, ◌≤◌, Bool, true, false, List, [], ◌∷◌, map, length, drop, get_or, refl, subst, arith}
use Rattle.std.specs.Prelude.{nat_lt, not}
use Rattle.std.specs.List.{AllByRecursion, sum}
use Rattle.std.proofs.lemmas.Bool.Decides.{nat_tests}
use Rattle.std.proofs.lemmas.List.Elements.{All-from_recursion, All-weaker, recursion_from_All}
use Rattle.std.proofs.lemmas.List.Sums.{sum_by-cons}
use Rattle.compositions.specs.Sizes.{IsSmallComposition}
use Rattle.ncsf.specs.PairLists.{CanGrowBy, with_letter, Sides, SidesGrowBy, before_own, before_other, with_side_letter, with_first_letter, with_letters, has_parts, sides_of}
use Rattle.realisations.specs.IndexKinds.{IsComposition}
use Rattle.realisations.specs.Pairings.{longer_compositions}
use Rattle.realisations.proofs.Every.{every-weaker, every-append, every-map, every-flat_map}

-- what the pairs of both sides have
pub record Each (P : List ℕ × List ℕ → Type 0) (sides : Sides) : Type 0 where
  pub low : AllByRecursion P sides.low
  pub high : AllByRecursion P sides.high

-- one letter more, before either kind
module _ (P Q : List ℕ × List ℕ → Type 0)
    (own : (falls : Bool) (e : List ℕ × List ℕ) → P e → Q (with_letter falls e.0, e.1))
    (other : (falls : Bool) (e : List ℕ × List ℕ) → P e → Q (with_letter falls e.1, e.0)) where
  both_ways : (e : List ℕ × List ℕ) → P e → AllByRecursion Q (map (λ parts. (parts, e.0)) (longer_compositions e.1))
  both_ways (j, []) h = (other true (j, []) h, tt)
  both_ways (j, i ∷ parts) h = (other true (j, i ∷ parts) h, (other false (j, i ∷ parts) h, tt))

  side : (falls crosses : Bool) (xs ys : List (List ℕ × List ℕ)) → AllByRecursion P xs → AllByRecursion P ys → AllByRecursion Q (with_side_letter falls crosses xs ys)
  side falls true xs ys hx hy =
      every-append Q (before_own falls xs) (before_other ys) (every-map P Q (λ (e : List ℕ × List ℕ). (with_letter falls e.0, e.1)) (own falls) xs hx)
      (every-flat_map P Q (λ (e : List ℕ × List ℕ). map (λ parts. (parts, e.0)) (longer_compositions e.1)) both_ways ys hy)
  side falls false xs ys hx hy = every-map P Q (λ (e : List ℕ × List ℕ). (with_letter falls e.0, e.1)) (own falls) xs hx

  pub each_longer : (falls : Bool) (sides : Sides) → Each P sides → Each Q (with_first_letter falls sides)
  each_longer falls sides h = record { low = side falls (not falls) sides.low sides.high h.low h.high; high = side falls falls sides.high sides.low h.high h.low }

-- a composition with a letter more
pub longer_composition : (falls : Bool) (parts : List ℕ) → IsComposition parts → IsComposition (with_letter falls parts)
longer_composition true parts h = (omega arith, h)
longer_composition false [] h = (omega arith, tt)
longer_composition false (i ∷ parts) h = (omega arith, h.1)

pub longer_sum : (falls : Bool) (parts : List ℕ) → sum (with_letter falls parts) ≡ suc (sum parts)
longer_sum true parts = omega (arith, sum_by-cons (λ (k : ℕ). k) 1 parts)
longer_sum false [] = omega (arith, sum_by-cons (λ (k : ℕ). k) 1 [])
longer_sum false (i ∷ parts) = omega (arith, sum_by-cons (λ (k : ℕ). k) (suc i) parts, sum_by-cons (λ (k : ℕ). k) i parts)

-- pairs that grow
grows : (n : ℕ) (sides : Sides) → SidesGrowBy n sides → Each (CanGrowBy n) sides
grows n sides h = record { low = recursion_from_All (CanGrowBy n) sides.low h.low; high = recursion_from_All (CanGrowBy n) sides.high h.high }

grown : (n : ℕ) (sides : Sides) → Each (CanGrowBy n) sides → SidesGrowBy n sides
grown n sides h = record { low = All-from_recursion (CanGrowBy n) sides.low h.low; high = All-from_recursion (CanGrowBy n) sides.high h.high }

pub still_grow : (n : ℕ) (falls : Bool) (sides : Sides) → SidesGrowBy (suc n) sides → SidesGrowBy n (with_first_letter falls sides)
still_grow n falls sides h =
    grown n (with_first_letter falls sides)
    (each_longer (CanGrowBy (suc n)) (CanGrowBy n)
    (λ falls e h. record { first = longer_composition falls e.0 h.first; second = h.second; room = omega (arith, longer_sum falls e.0, h.room) })
    (λ falls e h. record { first = longer_composition falls e.1 h.second; second = h.first; room = omega (arith, longer_sum falls e.1, h.room) })
    falls sides (grows (suc n) sides h))

pub fewer_grow : (m n : ℕ) (sides : Sides) → m ≤ n → SidesGrowBy n sides → SidesGrowBy m sides
fewer_grow m n sides le h =
    let can : (e : List ℕ × List ℕ) → CanGrowBy n e → CanGrowBy m e = λ e is. record { first = is.first; second = is.second; room = omega (arith, is.room, le) } in
    record { low = All-weaker (CanGrowBy n) (CanGrowBy m) can sides.low h.low; high = All-weaker (CanGrowBy n) (CanGrowBy m) can sides.high h.high }

-- pairs of compositions that add to n
abbrev pub IsPair : ℕ → List ℕ × List ℕ → Type 0
IsPair n e = IsComposition e.0 × IsComposition e.1 × (sum e.0 + sum e.1 ≡ n)

pub longer_pairs : (n : ℕ) (falls : Bool) (sides : Sides) → Each (IsPair n) sides → Each (IsPair (suc n)) (with_first_letter falls sides)
longer_pairs n falls sides h =
    each_longer (IsPair n) (IsPair (suc n))
    (λ falls e h. (longer_composition falls e.0 h.0, h.1, omega (arith, longer_sum falls e.0, h.2)))
    (λ falls e h. (longer_composition falls e.1 h.1, h.0, omega (arith, longer_sum falls e.1, h.2)))
    falls sides h

pairs_with_letters : (n m : ℕ) (sides : Sides) → Each (IsPair m) sides → Each (IsPair (n + m)) (with_letters n sides)
pairs_with_letters zero m sides h = subst (λ k. Each (IsPair k) sides) (omega arith) h
pairs_with_letters (suc n) m sides h = subst (λ k. Each (IsPair k) (with_letters (suc n) sides)) (omega arith) (longer_pairs (n + m) false (with_letters n sides) (pairs_with_letters n m sides h))

pub pairs_of_sides : (parts : List ℕ) → IsComposition parts → Each (IsPair (sum parts)) (sides_of parts)
pairs_of_sides [] h = record { low = tt; high = ((tt, tt, refl), tt) }
pairs_of_sides (i ∷ parts) h =
    subst (λ k. Each (IsPair k) (sides_of (i ∷ parts))) (omega (arith, h.0, sum_by-cons (λ (k : ℕ). k) i parts))
    (pairs_with_letters (i - 1) (suc (sum parts)) (with_first_letter (has_parts parts) (sides_of parts)) (longer_pairs (sum parts) (has_parts parts) (sides_of parts) (pairs_of_sides parts h.1)))

-- those for the parts behind the first can grow by the first
pub sides_grow : (parts : List ℕ) → 1 ≤ length parts → IsSmallComposition parts → SidesGrowBy (get_or parts 0 0) (sides_of (drop 1 parts))
sides_grow [] some h = absurd (omega (arith, some))
sides_grow (i ∷ parts) some h =
    let size = sum_by-cons (λ (k : ℕ). k) i parts in
    let pairs = pairs_of_sides parts h.positive.1 in
    let can : (e : List ℕ × List ℕ) → IsPair (sum parts) e → CanGrowBy i e = λ e is. record { first = is.0; second = is.1; room = omega (arith, is.2, h.small, size) } in
    grown i (sides_of parts) (record { low = every-weaker (IsPair (sum parts)) (CanGrowBy i) can (sides_of parts).low pairs.low; high = every-weaker (IsPair (sum parts)) (CanGrowBy i) can (sides_of parts).high pairs.high })

pub sides_of-next : (parts : List ℕ) → 1 ≤ length parts → with_letters (get_or parts 0 0 - 1) (with_first_letter (has_parts (drop 1 parts)) (sides_of (drop 1 parts))) ≡ sides_of parts
sides_of-next [] some = absurd (omega (arith, some))
sides_of-next (i ∷ parts) some = refl

pub has_parts-length : (parts : List ℕ) → nat_lt 0 (length parts) ≡ has_parts parts
has_parts-length [] = refl
has_parts-length (i ∷ parts) = some (length parts)
  where
    some : (n : ℕ) → nat_lt 0 (suc n) ≡ true
    some n = grind (arith, nat_tests)
