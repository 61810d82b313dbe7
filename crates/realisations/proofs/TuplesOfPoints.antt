-- Tuples of points.
use Rattle.std.proofs.Common.{◌≡◌, ℕ, List, [], ◌∷◌, ◌++◌, length, map, take, drop, refl, ◌∙◌, arith}
use Rattle.std.proofs.lemmas.List.{length-map}
use Rattle.basis_names.specs.declared.bases.BasisId.{BasisId}
use Rattle.realisations.specs.Bases.{kind_of}
use Rattle.realisations.specs.Points.{Kind, IsPoint, ArePoints}

-- what holds of each point holds of each tuple of one point
pub at_one_point : (kind : Kind) (P : List (List ℕ) → Type 0) → ((p : List ℕ) → IsPoint kind p → P (p ∷ [])) → (ps : List (List ℕ)) → ArePoints (kind ∷ []) ps → P ps
at_one_point kind P h [] points = absurd points
at_one_point kind P h (p ∷ []) points = h p points.0
at_one_point kind P h (p ∷ q ∷ ps) points = absurd points.1

-- there is one point of each kind
pub length-points : (kinds : List Kind) (ps : List (List ℕ)) → ArePoints kinds ps → length ps ≡ length kinds
length-points [] [] points = refl
length-points [] (p ∷ ps) points = absurd points
length-points (kind ∷ kinds) [] points = absurd points
length-points (kind ∷ kinds) (p ∷ ps) points = omega (arith, length-points kinds ps points.1)

-- and so one for each basis
pub length-points_over : (bases : List BasisId) (ps : List (List ℕ)) → ArePoints (map kind_of bases) ps → length ps ≡ length bases
length-points_over bases ps points = length-points (map kind_of bases) ps points ∙ length-map bases kind_of

-- the first points of a tuple are of the first kinds, and the others of the others
pub points_split : (kinds others : List Kind) (ps : List (List ℕ)) → ArePoints (kinds ++ others) ps
    → ArePoints kinds (take (length kinds) ps) × ArePoints others (drop (length kinds) ps)
points_split [] others ps points = (tt, points)
points_split (kind ∷ kinds) others [] points = absurd points
points_split (kind ∷ kinds) others (p ∷ ps) points =
    let rest = points_split kinds others ps points.1 in
    ((points.0, rest.0), rest.1)
