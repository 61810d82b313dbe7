-- The law of uniqueness, over any bases.
use Rattle.std.proofs.Common.{◌≡◌, ℕ, ◌≤◌, List, length, map, refl, sym, ◌∙◌}
use Rattle.std.proofs.Math.IntN.{pos}
use Rattle.basis_names.specs.declared.bases.BasisId.{BasisId}
use Rattle.realisations.specs.Indices.{AreIndices}
use Rattle.realisations.specs.Readings.{Terms, Reading, leaf, occurrence, denominator, AgreeAt}
use Rattle.realisations.specs.Combinations.{Combination, IsCanonical, HasKey, term_at}
use Rattle.realisations.proofs.Agreement.{agree_trans}
use Rattle.realisations.proofs.Coefficients.{Codes, Each, each_from}
use Rattle.realisations.specs.Bases.{kind_of, representatives}
use Rattle.realisations.specs.Points.{ArePoints}
use Rattle.basis_representatives.proofs.AllRepresentatives.{all_have}
use Rattle.basis_representatives.specs.Laws.{UniquenessLaw}
use Rattle.basis_representatives.proofs.TriangularReadings.{same_coefficients}
use Rattle.basis_representatives.proofs.RepresentedKeys.{measure_of, triangular_keys, points_of_key}
use Rattle.basis_representatives.proofs.SameCombinations.{scaled, each-scaled, weighed-scaled, same_by_coefficients}

-- each key of the scaled terms is a tuple of indices
each_index : (bases : List BasisId) (n : ℕ) (ts : Terms) → ((key : Codes) → HasKey ts key → AreIndices bases key)
    → Each (λ t. AreIndices bases t.1) (scaled n ts)
each_index bases n ts indices = each-scaled (AreIndices bases) n ts (each_from _ ts (λ i lt. indices ((term_at ts i).1) (i, lt, refl)))

-- agreement at all tuples of representatives determines the coefficients, and these the combination
pub unique : UniquenessLaw
unique bases c d hc hd rc rd ic id agree =
    same_by_coefficients (AreIndices bases) c d hc hd (rc ∙ sym rd) ic id
    (same_coefficients (AreIndices bases) (measure_of bases all_have) (λ k key h. occurrence bases k (representatives bases key)) (triangular_keys bases all_have)
    (scaled d.den c.terms) (scaled c.den d.terms) (each_index bases d.den c.terms ic) (each_index bases c.den d.terms id)
    (λ key h.
    let weight = λ (k : Codes). pos (occurrence bases k (representatives bases key)) in
    weighed-scaled weight d.den c.terms ∙ agree key h ∙ sym (weighed-scaled weight c.den d.terms)))

-- canonical combinations over any bases that agree with one reading at all points are the same
pub unique_reading : (bases : List BasisId) (r : Reading) (c d : Combination) → IsCanonical c.rank c.den c.terms → IsCanonical d.rank d.den d.terms
    → c.rank ≡ length bases → d.rank ≡ length bases → 1 ≤ denominator r
    → ((key : List (List ℕ)) → HasKey c.terms key → AreIndices bases key) → ((key : List (List ℕ)) → HasKey d.terms key → AreIndices bases key)
    → ((ps : List (List ℕ)) → ArePoints (map kind_of bases) ps → AgreeAt (leaf bases c.den c.terms) r ps)
    → ((ps : List (List ℕ)) → ArePoints (map kind_of bases) ps → AgreeAt (leaf bases d.den d.terms) r ps)
    → c ≡ d
unique_reading bases r c d hc hd rc rd positive ic id ac ad =
    unique bases c d hc hd rc rd ic id
    (λ key h.
    let ps = representatives bases key in
    let points = points_of_key bases all_have key h in
    agree_trans (leaf bases c.den c.terms) r (leaf bases d.den d.terms) ps positive (ac ps points) (sym (ad ps points)))
