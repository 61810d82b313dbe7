-- The reading of a product of two elements, and of the sum of their quasi-shuffles.
use Rattle.std.proofs.Common.{◌≡◌, ℕ, ◌+◌, ◌*◌, List, [], ◌∷◌, map, refl, subst, sym, ◌∙◌, ap, arith}
use Rattle.std.proofs.Math.IntN.{pos, ◌*ℤ◌}
use Rattle.std.proofs.lemmas.Int.{ints}
use Rattle.std.specs.List.{flat_map, sum}
use Rattle.realisations.proofs.TuplesOfPoints.{at_one_point}
use Rattle.realisations.specs.Answers.{IsAnswer}
use Rattle.realisations.specs.Combinations.{Combination, IsCanonical}
use Rattle.realisations.specs.IndexKinds.{IsComposition}
use Rattle.realisations.specs.Indices.{AreIndices, total_degree}
use Rattle.realisations.specs.Lists.{int_sum}
use Rattle.realisations.specs.Exponents.{exponent_cuts}
use Rattle.realisations.specs.Points.{exponents}
use Rattle.realisations.specs.Readings.{Terms, leaf, product, element, numerator, all_cuts, occurrence, AgreeAt}
use Rattle.basis_names.specs.declared.bases.BasisId.TheVariants.{QsymM}
use Rattle.realisations.proofs.Sums.{sums}
use Rattle.compositions.specs.QuasiShuffles.{quasi_shuffles, AreShuffles, IsProduct, IsKeyOf}
use Rattle.linear_combos.proofs.Edits.{lowest_one}
use Rattle.compositions.proofs.Parts.{length-le-sum, shuffles_small}
use Rattle.compositions.proofs.Cuts.{occurs_monomial, shuffled, cut_sum, shuffled_is}

-- one element at one point
element_at : (j p : List ℕ) → numerator (element QsymM j) (p ∷ []) ≡ pos (occurs_monomial j p)
element_at j p = ap pos (omega arith)

-- the sum over the cuts of a tuple of one point
over_pairs : (j k : List ℕ) (cs : List (List ℕ × List ℕ)) →
    int_sum (map (λ (c : List (List ℕ) × List (List ℕ)). numerator (element QsymM j) c.0 *ℤ numerator (element QsymM k) c.1) (flat_map (λ (c : List ℕ × List ℕ). map (λ (d : List (List ℕ) × List (List ℕ)). (c.0 ∷ d.0, c.1 ∷ d.1)) (all_cuts [] [])) cs))
    ≡ pos (sums (λ (c : List ℕ × List ℕ). occurs_monomial j c.0 * occurs_monomial k c.1) cs)
over_pairs j k [] = refl
over_pairs j k (c ∷ cs) =
    let head : numerator (element QsymM j) (c.0 ∷ []) *ℤ numerator (element QsymM k) (c.1 ∷ []) ≡ pos (occurs_monomial j c.0 * occurs_monomial k c.1) =
    ap (λ z. z *ℤ numerator (element QsymM k) (c.1 ∷ [])) (element_at j c.0) ∙ ap (λ z. pos (occurs_monomial j c.0) *ℤ z) (element_at k c.1) in
    omega (arith, ints, head, over_pairs j k cs)

product_at : (j k p : List ℕ) → numerator (product (element QsymM j) (element QsymM k)) (p ∷ []) ≡ pos (cut_sum j k p)
product_at j k p = over_pairs j k (exponent_cuts p)

words_at : (p : List ℕ) (ws : List (List ℕ)) → int_sum (map (λ w. pos (occurrence (QsymM ∷ []) (w ∷ []) (p ∷ []))) ws) ≡ pos (sums (λ w. occurs_monomial w p) ws)
words_at p [] = refl
words_at p (w ∷ ws) = omega (arith, ints, words_at p ws)

-- terms that are the quasi-shuffles read as the product
pub shuffles_read : (j k : List ℕ) (new : Terms) → IsComposition j → IsComposition k → AreShuffles j k new
    → (p : List ℕ) → AgreeAt (leaf (QsymM ∷ []) 1 new) (product (element QsymM j) (element QsymM k)) (p ∷ [])
shuffles_read j k new hj hk h p =
    let left : numerator (leaf (QsymM ∷ []) 1 new) (p ∷ []) ≡ pos (shuffled j k p) = omega (arith, ints, h.weighs (λ key. pos (occurrence (QsymM ∷ []) key (p ∷ []))), words_at p (quasi_shuffles j k)) in
    let same : pos (shuffled j k p) ≡ pos (cut_sum j k p) = ap pos (shuffled_is j k hj hk p) in
    ap (λ z. z *ℤ pos 1) (left ∙ same ∙ sym (product_at j k p))

index_of_key : (n : ℕ) (key : List (List ℕ)) → IsKeyOf n key → AreIndices (QsymM ∷ []) key
index_of_key n key (code, is, composition, size) = rw is (composition, tt)

degree_of_key : (n : ℕ) (key : List (List ℕ)) → IsKeyOf n key → total_degree (QsymM ∷ []) key ≡ n
degree_of_key n key (code, is, composition, size) = rw is (omega (arith, size))

-- the sum of the quasi-shuffles is the answer of the product of two elements
pub product_answer : (j k : List ℕ) (c : Combination) → IsComposition j → IsComposition k → IsProduct j k c
    → IsAnswer (QsymM ∷ []) (sum j + sum k) (product (element QsymM j) (element QsymM k)) c
product_answer j k c hj hk is = record {
  canonical = subst (λ r. IsCanonical r c.den c.terms) (sym is.rank) (subst (λ d. IsCanonical 1 d c.terms) (sym is.whole) (record { ordered = is.terms; lowest = lowest_one c.terms }));
  rank = is.rank;
  whole = is.whole;
  small = omega (arith, is.norm, shuffles_small (sum j + sum k) j k (omega (arith, length-le-sum j hj, length-le-sum k hk)));
  indices = λ key has. index_of_key _ key (is.shuffles.keys key has);
  degrees = λ key has. degree_of_key _ key (is.shuffles.keys key has);
  reads = at_one_point exponents (AgreeAt (leaf (QsymM ∷ []) 1 c.terms) (product (element QsymM j) (element QsymM k))) (λ p point. shuffles_read j k c.terms hj hk is.shuffles p);
}
