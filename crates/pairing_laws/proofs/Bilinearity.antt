-- Pairings are bilinear in the terms of combinations.
use Rattle.std.proofs.Common.{◌≡◌, ℕ, List, [], map, sym, ◌∙◌, ap}
use Rattle.std.proofs.Math.IntN.{ℤ, pos, ◌*ℤ◌}
use Rattle.hopf_num.proofs.Ring.{*ℤ_assoc}
use Rattle.basis_names.specs.declared.bases.BasisId.{BasisId}
use Rattle.realisations.specs.Bases.{kind_of}
use Rattle.realisations.specs.Codes.{Key}
use Rattle.realisations.specs.Combinations.{weighed}
use Rattle.realisations.specs.Lists.{with_sign}
use Rattle.realisations.specs.Pairings.{Paired, paired_tuples}
use Rattle.realisations.specs.Points.{Points}
use Rattle.realisations.specs.Readings.{Terms, Reading, leaf, pairing, kinds_of, numerator, occurrence, of_key}
use Rattle.realisations.proofs.Linearity.{numerator-of_key}
use Rattle.antipode_laws.proofs.IntegerSums.{sum_over, sum_over-swap, sum_over-times, sum_over_same, times-sum_over, with_sign-sum_over, with_sign-times}
use Rattle.pairing_laws.specs.Laws.{BilinearityLaw}
use Rattle.pairing_laws.proofs.Symmetry.{pairing_symmetric}

-- in the terms of the first
pub linear_left : (n : ℕ) (bases : List BasisId) (den : ℕ) (ts : Terms) (b : Reading) →
    numerator (pairing n (leaf bases den ts) b) [] ≡ weighed (λ key. numerator (pairing n (of_key bases key) b) []) ts
linear_left n bases den ts b =
    let tuples = paired_tuples n (map kind_of bases) (kinds_of b) in
    let reads : ℤ × Key → Paired Points → ℤ = λ (t : ℤ × Key) (p : Paired Points). pos (occurrence bases t.1 p.1) *ℤ numerator b p.2 in
    sum_over_same _ (λ (p : Paired Points). sum_over (λ (t : ℤ × Key). t.0 *ℤ with_sign p.0 (reads t p)) ts)
    (λ (p : Paired Points).
    ap (with_sign p.0) (sum_over-times (λ (t : ℤ × Key). t.0 *ℤ pos (occurrence bases t.1 p.1)) (numerator b p.2) ts)
    ∙ with_sign-sum_over p.0 (λ (t : ℤ × Key). (t.0 *ℤ pos (occurrence bases t.1 p.1)) *ℤ numerator b p.2) ts
    ∙ sum_over_same _ _
    (λ (t : ℤ × Key).
    ap (with_sign p.0) (sym (*ℤ_assoc t.0 (pos (occurrence bases t.1 p.1)) (numerator b p.2)))
    ∙ with_sign-times p.0 t.0 (reads t p)) ts)
    tuples
    ∙ sum_over-swap (λ (p : Paired Points) (t : ℤ × Key). t.0 *ℤ with_sign p.0 (reads t p)) tuples ts
    ∙ sum_over_same _ _
    (λ (t : ℤ × Key).
    sym (times-sum_over t.0 (λ (p : Paired Points). with_sign p.0 (reads t p)) tuples)
    ∙ ap (λ z. t.0 *ℤ z) (sum_over_same _ _ (λ (p : Paired Points). ap (λ z. with_sign p.0 (z *ℤ numerator b p.2)) (sym (numerator-of_key bases t.1 p.1))) tuples))
    ts

-- and of the second
linear_right : (n : ℕ) (a : Reading) (bases : List BasisId) (den : ℕ) (ts : Terms) →
    numerator (pairing n a (leaf bases den ts)) [] ≡ weighed (λ key. numerator (pairing n a (of_key bases key)) []) ts
linear_right n a bases den ts =
    pairing_symmetric n a (leaf bases den ts)
    ∙ linear_left n bases den ts a
    ∙ (λ i. weighed (λ key. pairing_symmetric n (of_key bases key) a i) ts)

-- the law
pub pairing_bilinear : BilinearityLaw
pairing_bilinear = record {
  left = linear_left;
  right = linear_right;
  both = λ n bases bases' d e ts us.
      linear_left n bases d ts (leaf bases' e us) ∙ (λ i. weighed (λ key. linear_right n (of_key bases key) bases' e us i) ts);
}
