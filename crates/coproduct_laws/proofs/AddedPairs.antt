-- A combination to which the pairs of a coproduct rule were added, each once, is its answer.
use Rattle.std.proofs.Common.{◌≡◌, ℕ, List, [], ◌∷◌, map, refl, sym, ◌∙◌, ap, subst, arith, ◌⊎◌, inl, inr}
use Rattle.std.proofs.Math.IntN.{ℤ, pos, ◌*ℤ◌}
use Rattle.std.proofs.lemmas.Int.{ints}
use Rattle.basis_names.specs.declared.bases.BasisId.{BasisId}
use Rattle.realisations.specs.Bases.{kind_of}
use Rattle.realisations.specs.Combinations.{HasKey, weighed}
use Rattle.realisations.specs.Indices.{AreIndices, degree_of, total_degree}
use Rattle.realisations.specs.Lists.{int_sum}
use Rattle.realisations.specs.Points.{ArePoints}
use Rattle.realisations.specs.Readings.{leaf, applied, coproduct, element, numerator, occurrence, AgreeAt}
use Rattle.coproduct_laws.specs.AddedPairs.{IsPairOf}
use Rattle.coproduct_laws.specs.Coproducts.{ArePairs, terms_of_pairs}
use Rattle.coproduct_laws.specs.Laws.{AnswerLaw}

-- a key that is one of the pairs has two indices, whose degrees add to that of the rule's index
pair_index : (basis : BasisId) (code : List ℕ) (pairs : List (List ℕ × List ℕ)) → ArePairs basis code pairs → (key : List (List ℕ)) → IsPairOf pairs key
    → AreIndices (basis ∷ basis ∷ []) key × (total_degree (basis ∷ basis ∷ []) key ≡ degree_of basis code)
pair_index basis code [] all key h = absurd h
pair_index basis code (e ∷ pairs) all key (inl h) =
    subst (λ k. AreIndices (basis ∷ basis ∷ []) k × (total_degree (basis ∷ basis ∷ []) k ≡ degree_of basis code)) (sym h) ((all.0.0, (all.0.1, tt)), omega (arith, all.0.2))
pair_index basis code (e ∷ pairs) all key (inr h) = pair_index basis code pairs all.1 key h

-- the pairs weigh as their terms
int_sum-terms : (weight : List (List ℕ) → ℤ) (pairs : List (List ℕ × List ℕ)) → int_sum (map (λ e. weight (e.0 ∷ e.1 ∷ [])) pairs) ≡ weighed weight (terms_of_pairs pairs)
int_sum-terms weight [] = refl
int_sum-terms weight (e ∷ pairs) = omega (arith, ints, int_sum-terms weight pairs)

pub answers : AnswerLaw
answers basis code pairs c rule canonical rank whole norm adds = record {
  canonical = canonical;
  rank = rank;
  whole = whole;
  small = omega (arith, norm, rule.few);
  indices = λ key h. (pair_index basis code pairs rule.indices key (is_pair key (adds.keys key h))).0;
  degrees = λ key h. (pair_index basis code pairs rule.indices key (is_pair key (adds.keys key h))).1;
  reads = reads;
}
  where
    is_pair : (key : List (List ℕ)) → HasKey [] key ⊎ IsPairOf pairs key → IsPairOf pairs key
    is_pair key (inl h) = absurd (omega (arith, h.1))
    is_pair key (inr h) = h

    numerators : (ps : List (List ℕ)) → numerator (leaf (basis ∷ basis ∷ []) 1 c.terms) ps ≡ numerator (leaf (basis ∷ basis ∷ []) 1 (terms_of_pairs pairs)) ps
    numerators ps =
        adds.weighs (λ key. pos (occurrence (basis ∷ basis ∷ []) key ps))
        ∙ omega (arith, ints, int_sum-terms (λ key. pos (occurrence (basis ∷ basis ∷ []) key ps)) pairs)

    reads : (ps : List (List ℕ)) → ArePoints (kind_of basis ∷ kind_of basis ∷ []) ps → AgreeAt (leaf (basis ∷ basis ∷ []) 1 c.terms) (applied coproduct 0 (element basis code)) ps
    reads [] points = absurd points
    reads (u ∷ []) points = absurd points.1
    reads (u ∷ v ∷ []) points = ap (λ z. z *ℤ pos 1) (numerators (u ∷ v ∷ [])) ∙ rule.reads u v points.0 points.1.0
    reads (u ∷ v ∷ w ∷ ps) points = absurd points.1.1
