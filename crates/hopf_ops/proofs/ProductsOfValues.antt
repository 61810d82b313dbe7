-- The combination of a product of values as a value.
use Rattle.std.proofs.Common.{◌≡◌, ℕ, ◌*◌, ◌^◌, ◌≤◌, ◌<◌, List, length, map, sym, ◌∙◌, ap, subst, arith}
use Rattle.std.proofs.Math.IntN.{pos, ◌*ℤ◌, *ℤ_comm, *ℤ-one, one}
use Rattle.std.specs.Prelude.{All}
use Rattle.hopf_num.specs.declared.room.Need.TheVariants.{Linear}
use Rattle.realisations.specs.Combinations.{Combination, IsCanonical, norm_of}
use Rattle.linear_combos.specs.Combos.{IsMultiple}
use Rattle.realisations.specs.Bases.{kind_of}
use Rattle.realisations.specs.Points.{ArePoints}
use Rattle.realisations.specs.Readings.{leaf, product, occurrence, numerator, AgreeAt}
use Rattle.basis_names.specs.declared.bases.BasisId.{BasisId}
use Rattle.hopf_laws.specs.Bases.{AreBuilt, least_limit}
use Rattle.hopf_laws.specs.Values.{Expansion, IsValue, greatest_degree, degree_of_value}
use Rattle.basis_routes.specs.declared.checks.Check.TheVariants.{Room}
use Rattle.basis_routes.specs.Checks.{Passes}
use Rattle.hopf_ops.specs.Gathering.{IsOfIndices, IsGathered}
use Rattle.hopf_ops.specs.Operations.{product_room}

-- what a product's rule of room gives
pub room_of_dens : (shift : ℕ) (a b : Expansion) → All Passes (product_room shift a b) → a.combination.den * b.combination.den < 2 ^ 127
room_of_dens shift a b pass = let first = pass 0 (Room (Linear 0 0)) (omega arith) in omega (arith, first)

pub room_of_norms : (shift : ℕ) (a b : Expansion) → All Passes (product_room shift a b) → norm_of a.combination.terms * norm_of b.combination.terms * 2 ^ shift < 2 ^ 127
room_of_norms shift a b pass = pass 1 (Room (Linear 0 0)) (omega arith)

-- the degree, over bases that are the value's
pub degree_over : (v : Expansion) (bases : List BasisId) → v.bases ≡ bases → greatest_degree bases v.combination.terms ≡ degree_of_value v
degree_over v bases same = ap (λ bs. greatest_degree bs v.combination.terms) (sym same)

-- a value's keys are indices of its bases
pub of_indices : (v : Expansion) (bases : List BasisId) → IsValue v → v.bases ≡ bases → IsOfIndices bases v.combination
of_indices v bases is same = subst (λ bs. IsOfIndices bs v.combination) same (record { rank = is.rank; indices = is.indices })

-- the gathered products over a denominator are a value
pub gathered_value : (bases : List BasisId) (n den : ℕ) (a b g c : Combination) → length bases ≤ 3 → AreBuilt bases → n ≤ least_limit bases → IsGathered bases n a b g
    → IsMultiple g (record { num = pos 1; den = den }) c → IsCanonical c.rank c.den c.terms → IsValue (record { bases = bases; combination = c })
gathered_value bases n den a b g c short built within is over canonical = record {
  short = short;
  built = built;
  rank = over.rank ∙ is.over.rank;
  canonical = canonical;
  indices = λ key has. is.over.indices key (over.keys key has);
  degrees = λ key has. omega (arith, within, is.degrees key (over.keys key has));
}

-- and read as the product
pub gathered_reads : (bases : List BasisId) (n : ℕ) (a b g c : Combination) → IsGathered bases n a b g → IsMultiple g (record { num = pos 1; den = a.den * b.den }) c
    → (ps : List (List ℕ)) → ArePoints (map kind_of bases) ps
    → AgreeAt (leaf bases c.den c.terms) (product (leaf bases a.den a.terms) (leaf bases b.den b.terms)) ps
unfolding one
gathered_reads bases n a b g c is over ps points =
    let value = numerator (leaf bases c.den c.terms) ps in
    let den : pos (a.den * b.den) ≡ pos g.den *ℤ pos (a.den * b.den) =
    sym (*ℤ-one (pos (a.den * b.den))) ∙ *ℤ_comm (pos (a.den * b.den)) (pos 1) ∙ ap (λ m. pos m *ℤ pos (a.den * b.den)) (sym is.whole) in
    ap (λ z. value *ℤ z) den
    ∙ over.weighs (λ key. pos (occurrence bases key ps))
    ∙ ap (λ z. z *ℤ pos c.den) (*ℤ-one _ ∙ is.reads ps points)
