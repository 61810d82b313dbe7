-- Conversions of the components of a value.
use Rattle.std.specs.Prelude.{◌≡◌, ◌≢◌, ◌⊎◌, ℕ, ◌+◌, ◌*◌, min, List, [], ◌∷◌, ◌++◌, length, get_or, unwrap_or, Ok}
use Rattle.hopf_num.specs.declared.room.Need.TheVariants.{Linear}
use Rattle.realisations.specs.Combinations.{norm_of}
use Rattle.basis_names.specs.Bases.{algebra_of, limit_of}
use Rattle.basis_names.specs.declared.bases.BasisId.{BasisId}
use Rattle.hopf_laws.specs.Bases.{least_limit}
use Rattle.hopf_laws.specs.Values.{Expansion, reading_of, degree_of_value}
use Rattle.basis_routes.specs.declared.checks.Check.{Check}
use Rattle.basis_routes.specs.declared.checks.Check.TheVariants.{Contained, DegreeWithin, Room, Routed}
use Rattle.basis_routes.specs.declared.place.Place.{Place}
use Rattle.basis_routes.specs.JoinTable.{join_of}
use Rattle.basis_routes.specs.Lists.{replaced}
use Rattle.basis_routes.specs.Places.{position_of, component_checks}
use Rattle.basis_routes.specs.Rows.{Row, Checked, Then, Answers}

-- the linear rule of room: norm * 2^(5n) < 2^127, n the total degree
abbrev pub linear_checks : Expansion → List Check
linear_checks v = Room (Linear (norm_of v.combination.terms) (5 * degree_of_value v)) ∷ []

-- component n, counted from 0, is brought to a basis: where it has the basis already, the value stays as it is, and nothing is tested;
-- else, after these checks, the value becomes the one over the changed bases that reads as before
abbrev pub BroughtTo : List Check → ℕ → BasisId → Expansion → Row
BroughtTo checks n new v answer =
    ((get_or v.bases n new ≡ new) × (answer ≡ Ok v))
    ⊎ ((get_or v.bases n new ≢ new) × Checked checks (Answers (replaced n (new ∷ []) v.bases) (reading_of v)) answer)

-- a conversion on the way of an operation, whose own checks come before it: after the linear rule
abbrev pub ConvertsAt : ℕ → BasisId → Expansion → Row
ConvertsAt n new v = BroughtTo (linear_checks v) n new v

-- the components from n on are brought to these bases, from the first to the last
abbrev pub ConvertsFrom : ℕ → List BasisId → Expansion → Row
ConvertsFrom n [] v answer = answer ≡ Ok v
ConvertsFrom n (new ∷ news) v answer = Then (ConvertsAt n new v) (ConvertsFrom (n + 1) news) answer

-- all components are
abbrev pub Converts : List BasisId → Expansion → Row
Converts targets v = ConvertsFrom 0 targets v

-- two values are brought to these bases, first the one and then the other, and then comes the rest with both
abbrev pub BothConvert : List BasisId → Expansion → Expansion → (Expansion → Expansion → Row) → Row
BothConvert targets a b Rest = Then (Converts targets a) (λ x. Then (Converts targets b) (Rest x))

-- the degree limit of a conversion: the least of those of the new bases and of the algebra where the old and the new basis have a join
abbrev pub limit_between : BasisId → BasisId → List BasisId → ℕ
limit_between old new bases = min (least_limit bases) (limit_of (algebra_of (unwrap_or (join_of old new) old)))

-- the checks of a conversion that is asked for: there is a way from the old basis to the new one, the total degree is within the limit, the linear rule, and the old basis lies in the algebra of the new one
abbrev pub conversion_checks : ℕ → BasisId → Expansion → List Check
conversion_checks n new v =
    let old = get_or v.bases n new in
    Routed old new ∷ DegreeWithin (degree_of_value v) (limit_between old new (replaced n (new ∷ []) v.bases)) ∷ linear_checks v ++ Contained old new ∷ []

-- a conversion that is asked for: the component is there; where it has the basis already, nothing more is tested
abbrev pub ConversionRow : Place → BasisId → Expansion → Row
ConversionRow at new v =
    Checked (component_checks at (length v.bases)) (BroughtTo (conversion_checks (position_of at) new v) (position_of at) new v)
