-- Weighed sums over the keys that occur in terms.
use Rattle.std.proofs.Common.{◌≡◌, refl, ◌∙◌}
use Rattle.std.proofs.Math.IntN.{ℤ, ◌+ℤ◌, ◌*ℤ◌}
use Rattle.hopf_num.proofs.Ring.{*ℤ-+ℤ}
use Rattle.realisations.specs.Codes.{Key}
use Rattle.realisations.specs.Readings.{Terms}
use Rattle.realisations.specs.Combinations.{HasKey, term_at, weighed}
use Rattle.realisations.proofs.Coefficients.{each_from, weighed_same}
use Rattle.antipode_laws.proofs.IntegerSums.{sum_over_same, sum_over-add}

-- weights that are the same at the keys of terms weigh the same
pub weighed_same_keys : (f g : Key → ℤ) (ts : Terms) → ((key : Key) → HasKey ts key → f key ≡ g key) → weighed f ts ≡ weighed g ts
weighed_same_keys f g ts e =
    weighed_same f g ts (each_from (λ (t : ℤ × Key). f t.1 ≡ g t.1) ts (λ i lt. e ((term_at ts i).1) (i, lt, refl)))

-- the weights add
pub weighed-add : (f g : Key → ℤ) (ts : Terms) → weighed (λ key. f key +ℤ g key) ts ≡ weighed f ts +ℤ weighed g ts
weighed-add f g ts =
    sum_over_same _ _ (λ (t : ℤ × Key). *ℤ-+ℤ t.0 (f t.1) (g t.1)) ts
    ∙ sum_over-add (λ (t : ℤ × Key). t.0 *ℤ f t.1) (λ (t : ℤ × Key). t.0 *ℤ g t.1) ts
