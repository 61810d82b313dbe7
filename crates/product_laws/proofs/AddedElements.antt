-- A combination to which the codes of a product rule were added, each once, is its answer.
use Rattle.std.proofs.Common.{◌≡◌, ℕ, List, [], ◌∷◌, sym, ◌∙◌, ap, subst, arith, ◌⊎◌, inl, inr}
use Rattle.std.proofs.Math.IntN.{pos, ◌*ℤ◌}
use Rattle.std.proofs.lemmas.Int.{ints}
use Rattle.basis_names.specs.declared.bases.BasisId.{BasisId}
use Rattle.realisations.specs.Bases.{kind_of}
use Rattle.realisations.specs.Combinations.{HasKey}
use Rattle.realisations.specs.Indices.{AreIndices, total_degree}
use Rattle.realisations.specs.Readings.{leaf, product, element, denominator, AgreeAt}
use Rattle.realisations.proofs.TuplesOfPoints.{at_one_point}
use Rattle.product_laws.specs.AddedElements.{IsCodeOf}
use Rattle.product_laws.specs.Products.{AreOfDegree}
use Rattle.product_laws.specs.Laws.{AnswerLaw}
use Rattle.product_laws.proofs.ElementProducts.{terms_read}

-- a key that is one of the codes has an index of their degree
code_index : (basis : BasisId) (n : ℕ) (codes : List (List ℕ)) → AreOfDegree basis n codes → (key : List (List ℕ)) → IsCodeOf codes key
    → AreIndices (basis ∷ []) key × (total_degree (basis ∷ []) key ≡ n)
code_index basis n [] all key h = absurd h
code_index basis n (c ∷ codes) all key (inl h) =
    subst (λ k. AreIndices (basis ∷ []) k × (total_degree (basis ∷ []) k ≡ n)) (sym h) ((all.0.0, tt), omega (arith, all.0.1))
code_index basis n (c ∷ codes) all key (inr h) = code_index basis n codes all.1 key h

pub answers : AnswerLaw
answers basis left right codes c rule canonical rank whole norm adds = record {
  canonical = canonical;
  rank = rank;
  whole = whole;
  small = omega (arith, norm, rule.few);
  indices = λ key h. (code_index basis _ codes rule.indices key (is_code key (adds.keys key h))).0;
  degrees = λ key h. (code_index basis _ codes rule.indices key (is_code key (adds.keys key h))).1;
  reads = at_one_point (kind_of basis) (AgreeAt (leaf (basis ∷ []) 1 c.terms) (product (element basis left) (element basis right))) (λ p point.
      ap (λ z. z *ℤ pos (denominator (product (element basis left) (element basis right)))) (terms_read basis codes c.terms (λ weight. omega (arith, ints, adds.weighs weight)) p)
      ∙ rule.reads p point);
}
  where
    is_code : (key : List (List ℕ)) → HasKey [] key ⊎ IsCodeOf codes key → IsCodeOf codes key
    is_code key (inl h) = absurd (omega (arith, h.1))
    is_code key (inr h) = h
