-- A component of a list of bases, and the bases before and after it.
use Rattle.std.proofs.Common.{◌≡◌, ℕ, zero, suc, ◌<◌, ◌≤◌, IsTrue, List, [], ◌∷◌, ◌++◌, length, map, refl, sym, ap, subst, arith}
use Rattle.std.specs.Prelude.{slice_index_or}
use Rattle.basis_names.specs.declared.bases.BasisId.{BasisId}
use Rattle.basis_names.specs.Bases.{algebra_of, limit_of}
use Rattle.built_bases.specs.Table.{is_built}
use Rattle.hopf_laws.specs.Bases.{AreBuilt, least_limit}
use Rattle.realisations.specs.Bases.{kind_of}
use Rattle.realisations.specs.Points.{Points, ArePoints}
use Rattle.basis_routes.specs.Lists.{replaced, doubled, without}

-- what holds of a component between the bases before it and those after it holds of each component
pub at_component : (P : ℕ → List BasisId → BasisId → Type 0) → ((before after : List BasisId) (basis : BasisId) → P (length before) (before ++ basis ∷ after) basis)
    → (n : ℕ) (bases : List BasisId) (basis : BasisId) → n < length bases → basis ≡ slice_index_or bases n basis → P n bases basis
at_component P h n [] basis lt is = absurd (omega (arith, lt))
at_component P h zero (b ∷ bases) basis lt is = subst (λ x. P 0 (b ∷ bases) x) (sym is) (h [] bases b)
at_component P h (suc n) (b ∷ bases) basis lt is =
    at_component (λ m bs x. P (suc m) (b ∷ bs) x) (λ before after x. h (b ∷ before) after x) n bases basis (omega (arith, lt)) is

-- a list has a basis at each place
pub basis_there : (n : ℕ) (bases : List BasisId) → n < length bases → (basis : BasisId) × (basis ≡ slice_index_or bases n basis)
basis_there n [] lt = absurd (omega (arith, lt))
basis_there zero (b ∷ bases) lt = (b, refl)
basis_there (suc n) (b ∷ bases) lt = basis_there n bases (omega (arith, lt))

-- others in its place
pub replaced-around : (before after middle : List BasisId) (basis : BasisId) → replaced (length before) middle (before ++ basis ∷ after) ≡ before ++ (middle ++ after)
replaced-around [] after middle basis = refl
replaced-around (b ∷ before) after middle basis = ap (λ bs. b ∷ bs) (replaced-around before after middle basis)

-- it twice
pub doubled-around : (before after : List BasisId) (basis : BasisId) → doubled (length before) (before ++ basis ∷ after) ≡ before ++ basis ∷ basis ∷ after
doubled-around [] after basis = refl
doubled-around (b ∷ before) after basis = ap (λ bs. b ∷ bs) (doubled-around before after basis)

-- the list without it
pub without-around : (before after : List BasisId) (basis : BasisId) → without (length before) (before ++ basis ∷ after) ≡ before ++ after
without-around [] after basis = refl
without-around (b ∷ before) after basis = ap (λ bs. b ∷ bs) (without-around before after basis)

-- built bases
pub built-append : (bases others : List BasisId) → AreBuilt bases → AreBuilt others → AreBuilt (bases ++ others)
built-append [] others h k = k
built-append (b ∷ bases) others h k = (h.0, built-append bases others h.1 k)

pub built-front : (bases others : List BasisId) → AreBuilt (bases ++ others) → AreBuilt bases
built-front [] others h = tt
built-front (b ∷ bases) others h = (h.0, built-front bases others h.1)

pub built-back : (bases others : List BasisId) → AreBuilt (bases ++ others) → AreBuilt others
built-back [] others h = h
built-back (b ∷ bases) others h = built-back bases others h.1

pub built-around : (before after middle : List BasisId) (basis : BasisId) → AreBuilt (before ++ basis ∷ after) → AreBuilt middle → AreBuilt (before ++ (middle ++ after))
built-around before after middle basis h k =
    built-append before (middle ++ after) (built-front before (basis ∷ after) h) (built-append middle after k (built-back before (basis ∷ after) h).1)

pub built-here : (before after : List BasisId) (basis : BasisId) → AreBuilt (before ++ basis ∷ after) → IsTrue (is_built basis)
built-here before after basis h = (built-back before (basis ∷ after) h).0

-- a degree is within the limit of each basis
abbrev pub IsWithin : ℕ → List BasisId → Type 0
IsWithin n [] = Unit {0}
IsWithin n (b ∷ bases) = (n ≤ limit_of (algebra_of b)) × IsWithin n bases

pub within_each : (n : ℕ) (bases : List BasisId) → n ≤ least_limit bases → IsWithin n bases
within_each n [] h = tt
within_each n (b ∷ []) h = (h, tt)
within_each n (b ∷ c ∷ bases) h = (omega (arith, h), within_each n (c ∷ bases) (omega (arith, h)))

-- and so within the least
pub within_least : (n : ℕ) (bases : List BasisId) → 1 ≤ length bases → IsWithin n bases → n ≤ least_limit bases
within_least n [] some h = absurd (omega (arith, some))
within_least n (b ∷ []) some h = h.0
within_least n (b ∷ c ∷ bases) some h = omega (arith, h.0, within_least n (c ∷ bases) (omega arith) h.1)

pub within-append : (n : ℕ) (bases others : List BasisId) → IsWithin n bases → IsWithin n others → IsWithin n (bases ++ others)
within-append n [] others h k = k
within-append n (b ∷ bases) others h k = (h.0, within-append n bases others h.1 k)

pub within-front : (n : ℕ) (bases others : List BasisId) → IsWithin n (bases ++ others) → IsWithin n bases
within-front n [] others h = tt
within-front n (b ∷ bases) others h = (h.0, within-front n bases others h.1)

pub within-back : (n : ℕ) (bases others : List BasisId) → IsWithin n (bases ++ others) → IsWithin n others
within-back n [] others h = h
within-back n (b ∷ bases) others h = within-back n bases others h.1

pub within-around : (n : ℕ) (before after middle : List BasisId) (basis : BasisId) → IsWithin n (before ++ basis ∷ after) → IsWithin n middle → IsWithin n (before ++ (middle ++ after))
within-around n before after middle basis h k =
    within-append n before (middle ++ after) (within-front n before (basis ∷ after) h) (within-append n middle after k (within-back n before (basis ∷ after) h).1)

-- a tuple of points in two parts
record ArePointsApart (middle after : List BasisId) (ps : Points) : Type 0 where
  here : Points
  back : Points
  is : ps ≡ here ++ back
  points : ArePoints (map kind_of middle) here

points_apart : (middle after : List BasisId) (ps : Points) → ArePoints (map kind_of (middle ++ after)) ps → ArePointsApart middle after ps
points_apart [] after ps h = record { here = []; back = ps; is = refl; points = tt }
points_apart (b ∷ middle) after [] h = absurd h
points_apart (b ∷ middle) after (p ∷ ps) h =
    let rest = points_apart middle after ps h.1 in
    record { here = p ∷ rest.here; back = rest.back; is = ap (λ v. p ∷ v) rest.is; points = (h.0, rest.points) }

-- and in three: those before a component, there, and after it
pub record ArePointsAround (before middle after : List BasisId) (ps : Points) : Type 0 where
  pub front : Points
  pub here : Points
  pub back : Points
  pub is : ps ≡ front ++ (here ++ back)
  pub long : length front ≡ length before
  pub points : ArePoints (map kind_of middle) here

pub points_around : (before middle after : List BasisId) (ps : Points) → ArePoints (map kind_of (before ++ (middle ++ after))) ps → ArePointsAround before middle after ps
points_around [] middle after ps h =
    let apart = points_apart middle after ps h in
    record { front = []; here = apart.here; back = apart.back; is = apart.is; long = refl; points = apart.points }
points_around (b ∷ before) middle after [] h = absurd h
points_around (b ∷ before) middle after (p ∷ ps) h =
    let rest = points_around before middle after ps h.1 in
    record { front = p ∷ rest.front; here = rest.here; back = rest.back; is = ap (λ v. p ∷ v) rest.is; long = ap suc rest.long; points = rest.points }
