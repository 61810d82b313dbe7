-- Operations on a component of readings that agree agree.
use Rattle.std.proofs.Common.{◌≡◌, ℕ, zero, suc, List, [], ◌∷◌, map, refl, sym, ◌∙◌, ap}
use Rattle.std.specs.List.{AllByRecursion}
use Rattle.std.proofs.Math.IntN.{ℤ, pos, ◌+ℤ◌, ◌*ℤ◌, neg_ℤ, *ℤ_comm, zero-*ℤ}
use Rattle.hopf_num.proofs.Ring.{+ℤ-*ℤ, *ℤ-neg_ℤ}
use Rattle.realisations.specs.Laws.{IsDoubled}
use Rattle.realisations.specs.Lists.{int_sum, with_sign}
use Rattle.realisations.specs.Points.{Kind, ArePoints, Points}
use Rattle.realisations.specs.Readings.{Reading, Operation, mult, applied, kinds_of, kinds_after_at, reads_at, numerator, denominator, AgreeAt}
use Rattle.realisations.proofs.PointsOfReadings.{at_points}

-- signs leave a factor alone
with_sign-times : (k : ℕ) (x m : ℤ) → with_sign k x *ℤ m ≡ with_sign k (x *ℤ m)
with_sign-times zero x m = refl
with_sign-times (suc k) x m =
    *ℤ_comm (neg_ℤ (with_sign k x)) m ∙ *ℤ-neg_ℤ m (with_sign k x) ∙ ap neg_ℤ (*ℤ_comm m (with_sign k x) ∙ with_sign-times k x m)

-- a sum with signs, term by term over two denominators
signed_sums : (f g : Points → ℤ) (k l : ℤ) (P : Points → Type 0) → ((ps : Points) → P ps → f ps *ℤ k ≡ g ps *ℤ l) → (rs : List (ℕ × Points)) → AllByRecursion (λ (r : ℕ × Points). P r.1) rs
    → int_sum (map (λ (r : ℕ × Points). with_sign r.0 (f r.1)) rs) *ℤ k ≡ int_sum (map (λ (r : ℕ × Points). with_sign r.0 (g r.1)) rs) *ℤ l
signed_sums f g k l P same [] h = zero-*ℤ k ∙ sym (zero-*ℤ l)
signed_sums f g k l P same (r ∷ rs) h =
    let here : with_sign r.0 (f r.1) *ℤ k ≡ with_sign r.0 (g r.1) *ℤ l =
    with_sign-times r.0 (f r.1) k ∙ ap (with_sign r.0) (same r.1 h.0) ∙ sym (with_sign-times r.0 (g r.1) l) in
    let later = signed_sums f g k l P same rs h.1 in
    +ℤ-*ℤ (with_sign r.0 (f r.1)) (int_sum (map (λ (r : ℕ × Points). with_sign r.0 (f r.1)) rs)) k
    ∙ (λ i. here i +ℤ later i)
    ∙ sym (+ℤ-*ℤ (with_sign r.0 (g r.1)) (int_sum (map (λ (r : ℕ × Points). with_sign r.0 (g r.1)) rs)) l)

-- an operation on a component of readings that agree at all points, which have the same kinds
pub applied_agrees : (operation : Operation) (n : ℕ) (a a' : Reading) (ps : Points) → (operation ≡ mult → IsDoubled n (kinds_of a)) → kinds_of a ≡ kinds_of a'
    → ArePoints (kinds_after_at n operation (kinds_of a)) ps → ((qs : Points) → ArePoints (kinds_of a) qs → AgreeAt a a' qs) → AgreeAt (applied operation n a) (applied operation n a') ps
applied_agrees operation n a a' ps doubled kinds points agree =
    signed_sums (numerator a) (numerator a') (pos (denominator a')) (pos (denominator a)) (ArePoints (kinds_of a)) agree (reads_at n operation (kinds_of a) ps)
    (at_points.operations operation n (kinds_of a) ps doubled points)
    ∙ ap (λ (ks : List Kind). int_sum (map (λ (r : ℕ × Points). with_sign r.0 (numerator a' r.1)) (reads_at n operation ks ps)) *ℤ pos (denominator a)) kinds
