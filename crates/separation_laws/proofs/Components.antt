-- One component of a key and the others: where a key occurs at a word in one component.
use Rattle.std.proofs.Common.{◌≡◌, ℕ, zero, suc, ◌*◌, ◌<◌, List, [], ◌∷◌, map, length, get_or, set, insert, remove, refl, sym, ap, arith}
use Rattle.std.proofs.lemmas.List.{length-map}
use Rattle.std.proofs.lemmas.List.Edits.{length-remove}
use Rattle.basis_names.specs.declared.bases.BasisId.{BasisId}
use Rattle.realisations.specs.Bases.{kind_of}
use Rattle.realisations.specs.Codes.{Key}
use Rattle.realisations.specs.Lists.{one_if}
use Rattle.realisations.specs.Occurrence.{occurs}
use Rattle.realisations.specs.Points.{ArePoints, IsPoint, Kind, Point, Points}
use Rattle.realisations.specs.Readings.{occurrence}
use Rattle.realisations.proofs.TuplesOfPoints.{length-points}
use Rattle.linear_combos.specs.Keys.{code_at}
use Rattle.separation_laws.specs.Conversions.{basis_at}

-- a key occurs at a word in one component and at points in the others where its code occurs at the word and its other codes at the points
pub occurrence-insert : (n : ℕ) (bases : List BasisId) (key : Key) (qs : Points) (w : List ℕ) → n < length bases → length key ≡ length bases → suc (length qs) ≡ length bases
    → occurrence bases key (insert qs n w) ≡ one_if (occurs (basis_at bases n) (code_at key n) w) * occurrence (remove bases n) (remove key n) qs
occurrence-insert n [] key qs w lt same long = absurd (omega arith)
occurrence-insert n (basis ∷ bases) [] qs w lt same long = absurd (omega arith)
occurrence-insert zero (basis ∷ bases) (code ∷ key) qs w lt same long = refl
occurrence-insert (suc n) (basis ∷ bases) (code ∷ key) [] w lt same long = absurd (omega arith)
occurrence-insert (suc n) (basis ∷ bases) (code ∷ key) (q ∷ qs) w lt same long =
    omega (arith, ap (λ k. one_if (occurs basis code q) * k) (occurrence-insert n bases key qs w (omega arith) (omega arith) (omega arith)))

-- a component given anew leaves the others
pub remove-set : {X : Type 0} (xs : List X) (n : ℕ) (x : X) → remove (set xs n x) n ≡ remove xs n
remove-set [] n x = refl
remove-set (y ∷ xs) zero x = refl
remove-set (y ∷ xs) (suc n) x = ap (λ ys. y ∷ ys) (remove-set xs n x)

-- a list from one element and the others
pub insert-remove : {X : Type 0} (xs : List X) (n : ℕ) (d : X) → n < length xs → insert (remove xs n) n (get_or xs n d) ≡ xs
insert-remove [] n d lt = absurd (omega arith)
insert-remove (y ∷ xs) zero d lt = refl
insert-remove (y ∷ xs) (suc n) d lt = ap (λ ys. y ∷ ys) (insert-remove xs n d (omega arith))

-- points of the other components and one of this one are points
pub points-insert : (n : ℕ) (kinds : List Kind) (qs : Points) (w : Point) → n < length kinds → ArePoints (remove kinds n) qs → ((kind : Kind) → IsPoint kind w) → ArePoints kinds (insert qs n w)
points-insert n [] qs w lt others point = absurd (omega arith)
points-insert zero (kind ∷ kinds) qs w lt others point = (point kind, others)
points-insert (suc n) (kind ∷ kinds) [] w lt others point = absurd others
points-insert (suc n) (kind ∷ kinds) (q ∷ qs) w lt others point = (others.0, points-insert n kinds qs w (omega arith) others.1 point)

-- and points without one of them are points of the other components
pub points-remove : (n : ℕ) (kinds : List Kind) (ps : Points) → n < length kinds → ArePoints kinds ps → ArePoints (remove kinds n) (remove ps n)
points-remove n [] ps lt points = absurd (omega arith)
points-remove n (kind ∷ kinds) [] lt points = absurd points
points-remove zero (kind ∷ kinds) (p ∷ ps) lt points = points.1
points-remove (suc n) (kind ∷ kinds) (p ∷ ps) lt points = (points.0, points-remove n kinds ps (omega arith) points.1)

-- the point of one component is of its kind
pub point_at : (n : ℕ) (bases : List BasisId) (ps : Points) → n < length bases → ArePoints (map kind_of bases) ps → IsPoint (kind_of (basis_at bases n)) (get_or ps n [])
point_at n [] ps lt points = absurd (omega arith)
point_at n (basis ∷ bases) [] lt points = absurd points
point_at zero (basis ∷ bases) (p ∷ ps) lt points = points.0
point_at (suc n) (basis ∷ bases) (p ∷ ps) lt points = point_at n bases ps (omega arith) points.1

-- the kinds of the other components
pub kinds-remove : (n : ℕ) (bases : List BasisId) → remove (map kind_of bases) n ≡ map kind_of (remove bases n)
kinds-remove zero [] = refl
kinds-remove (suc n) [] = refl
kinds-remove zero (basis ∷ bases) = refl
kinds-remove (suc n) (basis ∷ bases) = ap (λ kinds. kind_of basis ∷ kinds) (kinds-remove n bases)

-- a basis of the same kind in a component keeps the kinds
pub kinds-set : (n : ℕ) (bases : List BasisId) (basis : BasisId) → kind_of (basis_at bases n) ≡ kind_of basis → map kind_of (set bases n basis) ≡ map kind_of bases
kinds-set n [] basis same = refl
kinds-set zero (b ∷ bases) basis same = ap (λ kind. kind ∷ map kind_of bases) (sym same)
kinds-set (suc n) (b ∷ bases) basis same = ap (λ kinds. kind_of b ∷ kinds) (kinds-set n bases basis same)

-- there is a point for each of the other components
pub length-others : (n : ℕ) (bases : List BasisId) (qs : Points) → n < length bases → ArePoints (remove (map kind_of bases) n) qs → suc (length qs) ≡ length bases
length-others n bases qs lt others =
    let long = length-points (remove (map kind_of bases) n) qs others in
    let fewer = length-remove (map kind_of bases) n (omega (arith, length-map bases kind_of)) in
    omega (arith, long, fewer, length-map bases kind_of)
