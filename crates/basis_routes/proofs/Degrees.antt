-- Degrees of values.
use Rattle.std.proofs.Common.{◌≡◌, ℕ, zero, suc, ◌+◌, ◌<◌, ◌≤◌, List, [], ◌∷◌, length, take, refl, sym, ◌∙◌, ap, arith}
use Rattle.std.specs.Prelude.{max}
use Rattle.realisations.specs.Combinations.{HasKey, term_at}
use Rattle.realisations.specs.Indices.{total_degree}
use Rattle.realisations.specs.Readings.{Terms}
use Rattle.basis_names.specs.declared.bases.BasisId.{BasisId}
use Rattle.basis_names.specs.declared.bases.AlgebraId.{AlgebraId}
use Rattle.basis_names.specs.declared.bases.AlgebraId.TheVariants.{Qsym, Ncsf, Fqsym, Wqsym, Fsym, Pbt}
use Rattle.basis_names.specs.Bases.{algebra_of, limit_of}
use Rattle.hopf_laws.specs.Bases.{least_limit}
use Rattle.hopf_laws.specs.Values.{Expansion, IsValue, greatest_degree, degree_of_value}

-- limits are small
limit-small : (algebra : AlgebraId) → limit_of algebra ≤ 10
limit-small Qsym = omega arith
limit-small Ncsf = omega arith
limit-small Fqsym = omega arith
limit-small Wqsym = omega arith
limit-small Fsym = omega arith
limit-small Pbt = omega arith

pub least_limit-small : (bases : List BasisId) → least_limit bases ≤ 10
least_limit-small [] = omega arith
least_limit-small (basis ∷ []) = limit-small (algebra_of basis)
least_limit-small (basis ∷ next ∷ bases) = omega (arith, limit-small (algebra_of basis))

-- one term more
pub greatest_degree-more : (bases : List BasisId) (ts : Terms) (i : ℕ) → i < length ts
    → max (greatest_degree bases (take i ts)) (total_degree bases (term_at ts i).1) ≡ greatest_degree bases (take (i + 1) ts)
greatest_degree-more bases [] i lt = absurd (omega arith)
greatest_degree-more bases (t ∷ ts) zero lt = omega arith
greatest_degree-more bases (t ∷ ts) (suc i) lt =
    let rest = greatest_degree-more bases ts i (omega arith) in
    let next : suc i + 1 ≡ suc (i + 1) = omega arith in
    max_assoc (total_degree bases t.1) _ _ ∙ ap (λ n. max (total_degree bases t.1) n) rest ∙ ap (λ n. greatest_degree bases (take n (t ∷ ts))) (sym next)
  where
    max_assoc : (a b c : ℕ) → max (max a b) c ≡ max a (max b c)
    max_assoc a b c = omega arith

-- a key is at most of the greatest degree
pub degree-le-greatest : (bases : List BasisId) (ts : Terms) (key : List (List ℕ)) → HasKey ts key → total_degree bases key ≤ greatest_degree bases ts
degree-le-greatest bases [] key has = absurd (omega (arith, has.1))
degree-le-greatest bases (t ∷ ts) key (zero, lt, is) = omega (arith, ap (λ k. total_degree bases k) is)
degree-le-greatest bases (t ∷ ts) key (suc i, lt, is) = let rest = degree-le-greatest bases ts key (i, omega (arith, lt), is) in omega (arith, rest)

-- and where each key is within a limit, so is the greatest degree
greatest_degree-le : (bases : List BasisId) (ts : Terms) (limit : ℕ) → ((key : List (List ℕ)) → HasKey ts key → total_degree bases key ≤ limit) → greatest_degree bases ts ≤ limit
greatest_degree-le bases [] limit h = omega arith
greatest_degree-le bases (t ∷ ts) limit h =
    let first = h t.1 (0, omega arith, refl) in
    let rest = greatest_degree-le bases ts limit (λ key has. h key (suc has.0, omega (arith, has.1), has.2)) in
    omega (arith, first, rest)

-- the degree of a value is within the least limit of its bases
pub degree_within : (v : Expansion) → IsValue v → degree_of_value v ≤ least_limit v.bases
degree_within v is = greatest_degree-le v.bases v.combination.terms (least_limit v.bases) is.degrees

pub degree-small : (v : Expansion) → IsValue v → degree_of_value v ≤ 10
degree-small v is = omega (arith, degree_within v is, least_limit-small v.bases)
