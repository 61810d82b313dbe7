-- What operations and products read at points, and that it is linear.
use Rattle.std.proofs.Common.{◌≡◌, ℕ, List, [], ◌∷◌, refl, sym, ◌∙◌, ap, arith}
use Rattle.std.proofs.Math.IntN.{ℤ, ◌*ℤ◌}
use Rattle.std.proofs.lemmas.Int.{ints}
use Rattle.std.specs.List.{AllByRecursion}
use Rattle.realisations.specs.Codes.{Key}
use Rattle.realisations.specs.Combinations.{weighed}
use Rattle.realisations.specs.Laws.{IsDoubled}
use Rattle.realisations.specs.Lists.{with_sign}
use Rattle.realisations.specs.Points.{Kind, Points, ArePoints}
use Rattle.realisations.specs.Readings.{Terms, Reading, Operation, mult, product, numerator, kinds_of, all_cuts, kinds_after_at, reads_at}
use Rattle.realisations.proofs.PointsOfReadings.{at_points}
use Rattle.antipode_laws.proofs.IntegerSums.{sum_over, sum_over_same, sum_over-swap, times-sum_over, with_sign-sum_over, with_sign-times, with_sign-times_right, sum_over-times}
use Rattle.antipode_laws.proofs.OperationReads.{total}

-- functions that agree where P holds have the same sum over a list of such elements
pub sum_over_every : {X : Type 0} (P : X → Type 0) (f g : X → ℤ) → ((x : X) → P x → f x ≡ g x) → (xs : List X) → AllByRecursion P xs → sum_over f xs ≡ sum_over g xs
sum_over_every P f g e [] h = refl
sum_over_every P f g e (x ∷ xs) h = omega (arith, ints, e x h.0, sum_over_every P f g e xs h.1)

-- an operation makes the same of functions that agree at points
pub total_at_points : (operation : Operation) (n : ℕ) (kinds : List Kind) (f g : Points → ℤ) → ((qs : Points) → ArePoints kinds qs → f qs ≡ g qs) → (operation ≡ mult → IsDoubled n kinds) →
    (ps : Points) → ArePoints (kinds_after_at n operation kinds) ps → total f (reads_at n operation kinds ps) ≡ total g (reads_at n operation kinds ps)
total_at_points operation n kinds f g e doubled ps h =
    sum_over_every (λ (r : ℕ × Points). ArePoints kinds r.1) _ _ (λ (r : ℕ × Points) k. ap (with_sign r.0) (e r.1 k)) (reads_at n operation kinds ps) (at_points.operations operation n kinds ps doubled h)

-- of a weighed sum it makes the weighed sum
pub total-weighed : (h : Key → Points → ℤ) (ts : Terms) (rs : List (ℕ × Points)) → total (λ ps. weighed (λ key. h key ps) ts) rs ≡ weighed (λ key. total (h key) rs) ts
total-weighed h ts rs =
    sum_over_same _ _
    (λ (r : ℕ × Points). with_sign-sum_over r.0 (λ (t : ℤ × Key). t.0 *ℤ h t.1 r.1) ts
    ∙ sum_over_same _ _ (λ (t : ℤ × Key). with_sign-times r.0 t.0 (h t.1 r.1)) ts) rs
    ∙ sum_over-swap (λ (r : ℕ × Points) (t : ℤ × Key). t.0 *ℤ with_sign r.0 (h t.1 r.1)) rs ts
    ∙ sum_over_same _ _ (λ (t : ℤ × Key). sym (times-sum_over t.0 (λ (r : ℕ × Points). with_sign r.0 (h t.1 r.1)) rs)) ts

-- a factor behind comes out
pub total-times : (f : Points → ℤ) (z : ℤ) (rs : List (ℕ × Points)) → total (λ ps. f ps *ℤ z) rs ≡ total f rs *ℤ z
total-times f z rs =
    sum_over_same _ _ (λ (r : ℕ × Points). with_sign-times_right r.0 (f r.1) z) rs
    ∙ sym (sum_over-times (λ (r : ℕ × Points). with_sign r.0 (f r.1)) z rs)

-- products of one component with first factors that agree at points
pub product_at_points : (kind : Kind) (a b c : Reading) → kinds_of a ≡ kind ∷ [] → kinds_of b ≡ kind ∷ [] → ((qs : Points) → ArePoints (kind ∷ []) qs → numerator a qs ≡ numerator b qs) →
    (ps : Points) → ArePoints (kind ∷ []) ps → numerator (product a c) ps ≡ numerator (product b c) ps
product_at_points kind a b c ka kb e ps h =
    ap (λ (ks : List Kind). sum_over (λ (c' : Points × Points). numerator a c'.0 *ℤ numerator c c'.1) (all_cuts ks ps)) ka
    ∙ sum_over_every (λ (d : Points × Points). ArePoints (kind ∷ []) d.0 × ArePoints (kind ∷ []) d.1) _ _ (λ (d : Points × Points) k. ap (λ z. z *ℤ numerator c d.1) (e d.0 k.0)) (all_cuts (kind ∷ []) ps) (at_points.products (kind ∷ []) ps h)
    ∙ ap (λ (ks : List Kind). sum_over (λ (c' : Points × Points). numerator b c'.0 *ℤ numerator c c'.1) (all_cuts ks ps)) (sym kb)
