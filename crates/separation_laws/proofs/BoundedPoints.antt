-- Points of bounded degree suffice: each tuple of points has its patterns among finitely many, or no key of bounded degree occurs at it.
use Rattle.std.proofs.Common.{◌≡◌, ℕ, zero, suc, ◌*◌, ◌<◌, ◌≤◌, ◌⊎◌, inl, inr, Bool, true, false, List, [], ◌∷◌, map, length, remove, refl, ap, subst, arith}
use Rattle.std.specs.List.{sum, flat_map, range_with_len}
use Rattle.std.proofs.lemmas.Bool.{cases_lt}
use Rattle.std.proofs.lemmas.List.Sums.{sum_by-cons}
use Rattle.basis_names.specs.declared.bases.BasisId.{BasisId}
use Rattle.realisations.specs.Bases.{kind_of}
use Rattle.realisations.specs.Codes.{Key}
use Rattle.realisations.specs.Exponents.{without_zeros}
use Rattle.realisations.specs.Indices.{AreIndices, degree_of, total_degree}
use Rattle.realisations.specs.Lists.{one_if}
use Rattle.realisations.specs.Occurrence.{occurs}
use Rattle.realisations.specs.Points.{ArePoints, IsPoint, Kind, Point, Points, exponents, pattern, patterns, word}
use Rattle.realisations.specs.Readings.{occurrence}
use Rattle.realisations.specs.Standardisation.{pack}
use Rattle.realisations.proofs.Packing.{length-pack}
use Rattle.basis_representatives.proofs.Letters.{Letters-weaker}
use Rattle.basis_representatives.proofs.Places.{within}
use Rattle.product_laws.proofs.CutRules.{letters_of_packed}
use Rattle.product_laws.proofs.DistinctWords.{AreUpTo, all_words, every_word, times_in-all_words}
use Rattle.separation_laws.proofs.ClassBases.{is_packed-pack}
use Rattle.separation_laws.proofs.Grading.{graded, point_degree}
use Rattle.separation_laws.proofs.Members.{Member, member-flat_map, member-map, member-range, member-times_in, member_every, members-flat_map, members-map}

-- the words of at most n letters, each from 1 to n: among them are the patterns of all points of degree at most n
abbrev pub points_within : ℕ → List Point
points_within n = flat_map (λ k. all_words n k) (range_with_len 0 (suc n))

-- the tuples of such points
abbrev pub tuples_within : ℕ → ℕ → List Points
tuples_within n zero = [] ∷ []
tuples_within n (suc rank) = flat_map (λ p. map (λ ps. p ∷ ps) (tuples_within n rank)) (points_within n)

-- a short word of small letters is among the first
pub member-points_within : (n : ℕ) (p : Point) → length p ≤ n → AreUpTo n p → Member p (points_within n)
member-points_within n p short small =
    let once = times_in-all_words n (length p) p small refl in
    member-flat_map (λ k. all_words n k) (length p) p (range_with_len 0 (suc n)) (member-range (length p) 0 (suc n) (omega arith) (omega arith))
    (member-times_in p (all_words n (length p)) (omega (arith, once)))

-- each of these is a point of each kind
point_within : (n : ℕ) (p : Point) → Member p (points_within n) → (kind : Kind) → IsPoint kind p
point_within n p has exponents = tt
point_within n p has word =
    members-flat_map (λ k. all_words n k) (λ w. IsPoint word w) p (range_with_len 0 (suc n))
    (λ k m here. Letters-weaker (λ x. (1 ≤ x) × (x ≤ n)) (λ x. 1 ≤ x) (λ x h. h.0) p (member_every (λ w. AreUpTo n w × (length w ≡ k)) p (all_words n k) (every_word n k) here).0) has

-- the letters of a short packed word are small
up_to_within : (k n : ℕ) (w : Point) → k ≤ n → AreUpTo k w → AreUpTo n w
up_to_within k n w le h = Letters-weaker (λ x. (1 ≤ x) × (x ≤ k)) (λ x. (1 ≤ x) × (x ≤ n)) (λ x e. (e.0, omega (arith, e.1))) w h

-- so the packing of a short word is among the points
pub member-packed : (n : ℕ) (w : Point) → length w ≤ n → Member (pack w) (points_within n)
member-packed n w short =
    member-points_within n (pack w) (omega (arith, length-pack w))
    (up_to_within (length (pack w)) n (pack w) (omega (arith, length-pack w)) (letters_of_packed (pack w) (is_packed-pack w)))

-- and so are exponents without zeros
exponents_within : (n : ℕ) (p : Point) → sum (without_zeros p) ≤ n → (length (without_zeros p) ≤ sum (without_zeros p)) × AreUpTo n (without_zeros p)
exponents_within n [] h = (omega arith, tt)
exponents_within n (zero ∷ p) h = exponents_within n p h
exponents_within n (suc m ∷ p) h =
    let more = sum_by-cons (λ (k : ℕ). k) (suc m) (without_zeros p) in
    let rest = exponents_within n p (omega (arith, more)) in
    (omega (arith, more, rest.0), ((omega arith, omega (arith, more)), rest.1))

-- the pattern of a point of bounded degree is among the points
pub member-pattern : (n : ℕ) (kind : Kind) (p : Point) → point_degree kind p ≤ n → Member (pattern kind p) (points_within n)
member-pattern n exponents p h = let w = exponents_within n p h in member-points_within n (without_zeros p) (omega (arith, w.0)) w.1
member-pattern n word p h = member-packed n p h

-- each tuple has its patterns among the bounded ones, or no key of bounded degree occurs at it
pub bounded_or_none : (n : ℕ) (bases : List BasisId) (ps : Points) → length ps ≡ length bases
    → Member (patterns (map kind_of bases) ps) (tuples_within n (length bases)) ⊎ ((key : Key) → total_degree bases key ≤ n → occurrence bases key ps ≡ 0)
bounded_or_none n [] [] long = inl (inl refl)
bounded_or_none n [] (p ∷ ps) long = absurd (omega arith)
bounded_or_none n (basis ∷ bases) [] long = absurd (omega arith)
bounded_or_none n (basis ∷ bases) (p ∷ ps) long = elim (cases_lt n (point_degree (kind_of basis) p)) [
  | inl above ↦ inr (first_none above)
  | inr within ↦ elim (bounded_or_none n bases ps (omega arith)) [
    | inr none ↦ inr (rest_none none)
    | inl among ↦ inl (
        member-flat_map (λ q. map (λ (qs : Points). q ∷ qs) (tuples_within n (length bases))) (pattern (kind_of basis) p) (patterns (map kind_of (basis ∷ bases)) (p ∷ ps)) (points_within n)
        (member-pattern n (kind_of basis) p within) (member-map (λ (qs : Points). pattern (kind_of basis) p ∷ qs) (patterns (map kind_of bases) ps) (tuples_within n (length bases)) among))
  ]
]
  where
    by_test : n < point_degree (kind_of basis) p → (code : List ℕ) (key : Key) → degree_of basis code ≤ n → (b : Bool) → occurs basis code p ≡ b → one_if b * occurrence bases key ps ≡ 0
    by_test above code key small true e = absurd (omega (arith, graded basis code p e))
    by_test above code key small false e = omega arith

    first_none : n < point_degree (kind_of basis) p → (key : Key) → total_degree (basis ∷ bases) key ≤ n → occurrence (basis ∷ bases) key (p ∷ ps) ≡ 0
    first_none above [] small = refl
    first_none above (code ∷ key) small = by_test above code key (omega arith) (occurs basis code p) refl

    rest_none : ((key : Key) → total_degree bases key ≤ n → occurrence bases key ps ≡ 0) → (key : Key) → total_degree (basis ∷ bases) key ≤ n → occurrence (basis ∷ bases) key (p ∷ ps) ≡ 0
    rest_none none [] small = refl
    rest_none none (code ∷ key) small = omega (arith, ap (λ k. one_if (occurs basis code p) * k) (none key (omega arith)))

-- each of them is a tuple of points of any kinds, as many as it has
pub tuple_of_points : (n : ℕ) (kinds : List Kind) (ps : Points) → Member ps (tuples_within n (length kinds)) → ArePoints kinds ps
tuple_of_points n [] ps h = elim h [
  | inl same ↦ subst (ArePoints []) same tt
  | inr none ↦ absurd none
]
tuple_of_points n (kind ∷ kinds) ps h =
    members-flat_map (λ p. map (λ (qs : Points). p ∷ qs) (tuples_within n (length kinds))) (ArePoints (kind ∷ kinds)) ps (points_within n)
    (λ p m here. members-map (λ (qs : Points). p ∷ qs) (ArePoints (kind ∷ kinds)) ps (tuples_within n (length kinds)) (λ qs is. (point_within n p m kind, tuple_of_points n kinds qs is)) here) h

-- without one component the total degree is no larger
pub total_degree-remove : (n : ℕ) (bases : List BasisId) (key : Key) → AreIndices bases key → total_degree (remove bases n) (remove key n) ≤ total_degree bases key
total_degree-remove zero [] [] h = omega arith
total_degree-remove (suc n) [] [] h = omega arith
total_degree-remove n [] (code ∷ key) h = absurd h
total_degree-remove n (basis ∷ bases) [] h = absurd h
total_degree-remove zero (basis ∷ bases) (code ∷ key) h = omega arith
total_degree-remove (suc n) (basis ∷ bases) (code ∷ key) h = omega (arith, total_degree-remove n bases key h.1)
