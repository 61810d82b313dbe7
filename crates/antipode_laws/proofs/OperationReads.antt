-- What an operation reads at points, as a sum over the places where it reads its operand.
use Rattle.std.proofs.Common.{◌≡◌, ℕ, suc, List, [], ◌∷◌, map, length, sym, ◌∙◌, ap, arith}
use Rattle.std.specs.Prelude.{ℤ}
use Rattle.std.proofs.lemmas.Int.{ints}
use Rattle.realisations.specs.Lists.{with_sign}
use Rattle.realisations.specs.Points.{Kind}
use Rattle.realisations.specs.Readings.{Operation, coproduct, antipode, counit, mult, reads, reads_at, cuts, on_ordinal_sum, pieces, on_ordinal_sums}
use Rattle.antipode_laws.proofs.IntegerSums.{sum_over, sum_over-map, sum_over-flat_map, sum_over_same, with_sign-sum_over}

-- the sum of a function of tuples over places with signs
abbrev pub total : (List (List ℕ) → ℤ) → List (ℕ × List (List ℕ)) → ℤ
total f rs = sum_over (λ (r : ℕ × List (List ℕ)). with_sign r.0 (f r.1)) rs

pub total_same : (f g : List (List ℕ) → ℤ) → ((ps : List (List ℕ)) → f ps ≡ g ps) → (rs : List (ℕ × List (List ℕ))) → total f rs ≡ total g rs
total_same f g e rs =
    sum_over_same (λ (r : ℕ × List (List ℕ)). with_sign r.0 (f r.1)) (λ (r : ℕ × List (List ℕ)). with_sign r.0 (g r.1)) (λ (r : ℕ × List (List ℕ)). ap (with_sign r.0) (e r.1)) rs

-- the sum over the points of a doubled alphabet that are u and v
abbrev pub over_ordinal_sum : Kind → (List ℕ → ℤ) → List ℕ → List ℕ → ℤ
over_ordinal_sum kind f u v = sum_over f (on_ordinal_sum kind u v)

-- the sum over the cuts of a point
abbrev pub over_point_cuts : Kind → (List ℕ → List ℕ → ℤ) → List ℕ → ℤ
over_point_cuts kind f p = sum_over (λ (c : List ℕ × List ℕ). f c.0 c.1) (cuts kind p)

-- Takeuchi's sum
abbrev pub takeuchi : Kind → (List ℕ → ℤ) → List ℕ → ℤ
takeuchi kind f p = sum_over (λ parts. with_sign (length parts) (sum_over f (on_ordinal_sums kind parts))) (pieces kind p)

-- the coproduct, mult, antipode and counit of the first component

pub total_coproduct : (kind : Kind) (f : List (List ℕ) → ℤ) (u v : List ℕ) (ps : List (List ℕ)) →
    total f (reads coproduct kind (u ∷ v ∷ ps)) ≡ over_ordinal_sum kind (λ x. f (x ∷ ps)) u v
total_coproduct kind f u v ps = sum_over-map (λ (r : ℕ × List (List ℕ)). with_sign r.0 (f r.1)) (λ x. (0, x ∷ ps)) (on_ordinal_sum kind u v)

pub total_mult : (kind : Kind) (f : List (List ℕ) → ℤ) (p : List ℕ) (ps : List (List ℕ)) →
    total f (reads mult kind (p ∷ ps)) ≡ over_point_cuts kind (λ u v. f (u ∷ v ∷ ps)) p
total_mult kind f p ps =
    sum_over-map (λ (r : ℕ × List (List ℕ)). with_sign r.0 (f r.1)) (λ (c : List ℕ × List ℕ). (0, c.0 ∷ c.1 ∷ ps)) (cuts kind p)

pub total_antipode : (kind : Kind) (f : List (List ℕ) → ℤ) (p : List ℕ) (ps : List (List ℕ)) →
    total f (reads antipode kind (p ∷ ps)) ≡ takeuchi kind (λ x. f (x ∷ ps)) p
total_antipode kind f p ps =
    sum_over-flat_map (λ (r : ℕ × List (List ℕ)). with_sign r.0 (f r.1)) (λ parts. map (λ x. (length parts, x ∷ ps)) (on_ordinal_sums kind parts)) (pieces kind p)
    ∙ sum_over_same _ (λ parts. with_sign (length parts) (sum_over (λ x. f (x ∷ ps)) (on_ordinal_sums kind parts)))
    (λ parts. sum_over-map (λ (r : ℕ × List (List ℕ)). with_sign r.0 (f r.1)) (λ x. (length parts, x ∷ ps)) (on_ordinal_sums kind parts)
    ∙ sym (with_sign-sum_over (length parts) (λ x. f (x ∷ ps)) (on_ordinal_sums kind parts)))
    (pieces kind p)

pub total_counit : (kind : Kind) (f : List (List ℕ) → ℤ) (ps : List (List ℕ)) → total f (reads counit kind ps) ≡ f ([] ∷ ps)
total_counit kind f ps = omega (arith, ints)

-- one more component in front, whose point stands still
pub total_at : (f : List (List ℕ) → ℤ) (n : ℕ) (operation : Operation) (kind : Kind) (kinds : List Kind) (p : List ℕ) (ps : List (List ℕ)) →
    total f (reads_at (suc n) operation (kind ∷ kinds) (p ∷ ps)) ≡ total (λ qs. f (p ∷ qs)) (reads_at n operation kinds ps)
total_at f n operation kind kinds p ps =
    sum_over-map (λ (r : ℕ × List (List ℕ)). with_sign r.0 (f r.1)) (λ (r : ℕ × List (List ℕ)). (r.0, p ∷ r.1)) (reads_at n operation kinds ps)
