-- The test whether two lists of terms are equal.
use Rattle.std.proofs.Common.{◌≡◌, Bool, ◌&&◌, ℕ, List, nat_eq, refl, ap}
use Rattle.std.proofs.Math.IntN.{ℤ}
use Rattle.std.specs.Bool.{Decides}
use Rattle.std.specs.Ordering.{int_eq}
use Rattle.std.specs.Cmp.Lexicographic.{pointwise}
use Rattle.std.proofs.lemmas.Bool.Decides.{Decides-and, Decides-int_eq}
use Rattle.std.proofs.lemmas.Slice.Eq.{slice_eq-Decides, bytes_eq-Decides}
use Rattle.realisations.specs.Readings.{Terms}

-- whether two terms are equal
abbrev term_eq : ℤ × List (List ℕ) → ℤ × List (List ℕ) → Bool
term_eq a b = int_eq a.0 b.0 && pointwise (pointwise nat_eq) a.1 b.1

-- the test of two terms decides
term_eq-Decides : (a b : ℤ × List (List ℕ)) → Decides (term_eq a b) (a ≡ b)
term_eq-Decides a b =
    let parts : Decides (term_eq a b) ((a.0 ≡ b.0) × (a.1 ≡ b.1)) =
    Decides-and (int_eq a.0 b.0) (pointwise (pointwise nat_eq) a.1 b.1) (Decides-int_eq a.0 b.0) (slice_eq-Decides bytes_eq-Decides a.1 b.1 (pointwise (pointwise nat_eq) a.1 b.1) refl) in (
      λ yes. let h = parts.0 yes in λ i. (h.0 i, h.1 i),
      λ e. parts.1 (ap (λ t. t.0) e, ap (λ t. t.1) e),
    )

-- and so does the test of two lists
pub terms_eq-Decides : (ts us : Terms) (r : Bool) → r ≡ pointwise term_eq ts us → Decides r (ts ≡ us)
terms_eq-Decides ts us r is = slice_eq-Decides term_eq-Decides ts us r is
