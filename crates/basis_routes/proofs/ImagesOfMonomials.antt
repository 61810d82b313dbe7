-- A component over the monomial basis of QSym is its own commuting image.
use Rattle.std.proofs.Common.{◌≡◌, ℕ, zero, suc, ◌<◌, List, [], ◌∷◌, length, map, get_or, refl, sym, ◌∙◌, ap, subst, arith}
use Rattle.std.proofs.Math.IntN.{ℤ, pos, ◌+ℤ◌, ◌*ℤ◌}
use Rattle.std.proofs.lemmas.Int.{ints}
use Rattle.basis_names.specs.declared.bases.BasisId.{BasisId}
use Rattle.basis_names.specs.declared.bases.BasisId.TheVariants.{QsymM}
use Rattle.hopf_laws.specs.Values.{Expansion, IsValue, Expands, reading_of}
use Rattle.realisations.specs.Bases.{kind_of}
use Rattle.realisations.specs.Lists.{int_sum, with_sign}
use Rattle.realisations.specs.Points.{Kind, Points, ArePoints}
use Rattle.realisations.specs.Readings.{applied, commute, commuting, reads_at, numerator, AgreeAt}
use Rattle.basis_routes.specs.Lists.{replaced}

-- its basis takes its own place
replaced-same : (n : ℕ) (bases : List BasisId) → n < length bases → get_or bases n QsymM ≡ QsymM → replaced n (QsymM ∷ []) bases ≡ bases
replaced-same n [] lt at = absurd (omega (arith, lt))
replaced-same zero (b ∷ bases) lt at = ap (λ x. x ∷ bases) (sym at)
replaced-same (suc n) (b ∷ bases) lt at = ap (λ bs. b ∷ bs) (replaced-same n bases (omega (arith, lt)) at)

-- its image is read where it is
reads-same : (n : ℕ) (bases : List BasisId) (ps : Points) → n < length bases → get_or bases n QsymM ≡ QsymM → ArePoints (map kind_of bases) ps
    → reads_at n commute (map kind_of bases) ps ≡ (0, ps) ∷ []
reads-same n [] ps lt at points = absurd (omega (arith, lt))
reads-same n (b ∷ bases) [] lt at points = absurd points
reads-same zero (b ∷ bases) (p ∷ ps) lt at points = ap (λ (x : BasisId). map (λ (q : List ℕ). (0, q ∷ ps)) (commuting (kind_of x) p)) at
reads-same (suc n) (b ∷ bases) (p ∷ ps) lt at points =
    ap (λ (rs : List (ℕ × Points)). map (λ (r : ℕ × Points). (r.0, p ∷ r.1)) rs) (reads-same n bases ps (omega (arith, lt)) at points.1)

one_read : (z : ℤ) → z ≡ z +ℤ pos 0
one_read z = omega (arith, ints)

-- so it agrees with its image
pub image_agrees : (n : ℕ) (v : Expansion) (ps : Points) → n < length v.bases → get_or v.bases n QsymM ≡ QsymM → ArePoints (map kind_of v.bases) ps
    → AgreeAt (reading_of v) (applied commute n (reading_of v)) ps
image_agrees n v ps lt at points =
    ap (λ z. z *ℤ pos v.combination.den)
    (one_read (numerator (reading_of v) ps)
    ∙ ap (λ (rs : List (ℕ × Points)). int_sum (map (λ (r : ℕ × Points). with_sign r.0 (numerator (reading_of v) r.1)) rs)) (sym (reads-same n v.bases ps lt at points)))

-- and the value is the one over its bases that reads as the image
pub image_of_monomial : (n : ℕ) (v : Expansion) → n < length v.bases → get_or v.bases n QsymM ≡ QsymM → IsValue v → Expands (replaced n (QsymM ∷ []) v.bases) (applied commute n (reading_of v)) v
image_of_monomial n v lt at is =
    let same = replaced-same n v.bases lt at in
    record {
      value = is;
      over = sym same;
      reads = λ ps points. image_agrees n v ps lt at (subst (λ (bs : List BasisId). ArePoints (map kind_of bs) ps) same points);
    }
