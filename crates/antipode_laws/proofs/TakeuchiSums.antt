-- Takeuchi's sum of a function, and of a multiple of it.
use Rattle.std.proofs.Common.{◌≡◌, ℕ, List, length, sym, ◌∙◌, ap}
use Rattle.std.proofs.Math.IntN.{ℤ, ◌*ℤ◌, *ℤ_comm}
use Rattle.realisations.specs.Lists.{with_sign}
use Rattle.realisations.specs.Points.{Kind}
use Rattle.realisations.specs.Readings.{pieces, on_ordinal_sums}
use Rattle.antipode_laws.proofs.IntegerSums.{sum_over, sum_over_same, times-sum_over, with_sign-times}
use Rattle.antipode_laws.proofs.OperationReads.{takeuchi}

module _ (kind : Kind) where
  pub takeuchi_same : (f g : List ℕ → ℤ) → ((q : List ℕ) → f q ≡ g q) → (p : List ℕ) → takeuchi kind f p ≡ takeuchi kind g p
  takeuchi_same f g e p =
      sum_over_same _ _ (λ parts. ap (with_sign (length parts)) (sum_over_same f g e (on_ordinal_sums kind parts))) (pieces kind p)

  -- a factor in front
  pub takeuchi-times : (z : ℤ) (f : List ℕ → ℤ) (p : List ℕ) → takeuchi kind (λ q. z *ℤ f q) p ≡ z *ℤ takeuchi kind f p
  takeuchi-times z f p =
      sum_over_same _ _
      (λ parts. ap (with_sign (length parts)) (sym (times-sum_over z f (on_ordinal_sums kind parts)))
      ∙ with_sign-times (length parts) z (sum_over f (on_ordinal_sums kind parts)))
      (pieces kind p)
      ∙ sym (times-sum_over z (λ parts. with_sign (length parts) (sum_over f (on_ordinal_sums kind parts))) (pieces kind p))

  -- a factor behind
  pub takeuchi-times_right : (f : List ℕ → ℤ) (z : ℤ) (p : List ℕ) → takeuchi kind (λ q. f q *ℤ z) p ≡ takeuchi kind f p *ℤ z
  takeuchi-times_right f z p =
      takeuchi_same (λ q. f q *ℤ z) (λ q. z *ℤ f q) (λ q. *ℤ_comm (f q) z) p
      ∙ takeuchi-times z f p ∙ *ℤ_comm z (takeuchi kind f p)
