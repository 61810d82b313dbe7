-- The parts of two codes are the same exactly where each key has the same coefficient with either code in the component.
use Rattle.std.proofs.Common.{◌≡◌, ℕ, suc, ◌<◌, ◌↔◌, List, length, insert, remove, refl, sym, ◌∙◌, ap, arith}
use Rattle.std.proofs.Math.IntN.{ℤ}
use Rattle.std.proofs.lemmas.List.Edits.{length-remove}
use Rattle.basis_names.specs.declared.bases.BasisId.{BasisId}
use Rattle.realisations.specs.Codes.{Key}
use Rattle.realisations.specs.Combinations.{AreTerms, term_at}
use Rattle.realisations.specs.Indices.{AreIndices}
use Rattle.realisations.specs.Readings.{Terms}
use Rattle.realisations.proofs.Coefficients.{Each, IsTermOf, coefficient, each_from, rising_from, same_terms}
use Rattle.linear_combos.specs.Keys.{code_at}
use Rattle.change_laws.proofs.LiftedKeys.{length-indices}
use Rattle.separation_laws.specs.FiniteTests.{part}
use Rattle.separation_laws.proofs.EachTerm.{EachKey, each_key_at, each_weaker, indices-remove}
use Rattle.separation_laws.proofs.Parts.{coefficient-part, each-part, terms-part}

-- each key of the other components has the same coefficient with either code
abbrev pub HaveSameCoefficients : ℕ → List BasisId → Terms → List ℕ → List ℕ → Type 0
HaveSameCoefficients n bases ts c e = (others : Key) → AreIndices (remove bases n) others → coefficient ts (insert others n c) ≡ coefficient ts (insert others n e)

module _ (n : ℕ) (bases : List BasisId) (lt : n < length bases) (ts : Terms) (terms : AreTerms (length bases) ts) (indices : EachKey (AreIndices bases) ts) where
  -- the keys have a code more than those of the other components
  long : (others : Key) → AreIndices (remove bases n) others → EachKey (λ key. (n < length key) × (suc (length others) ≡ length key)) ts
  long others h =
      let fewer = length-remove bases n lt in
      let same = length-indices (remove bases n) others h in
      each_weaker (λ (t : ℤ × Key). AreIndices bases t.1) (λ (t : ℤ × Key). (n < length t.1) × (suc (length others) ≡ length t.1))
      (λ t k. let all = length-indices bases t.1 k in (omega arith, omega arith)) ts indices

  -- the part has terms of indices, none of them 0
  terms_of_part : (code : List ℕ) → Each (IsTermOf (AreIndices (remove bases n))) (part n code ts)
  terms_of_part code =
      let made = terms-part n bases code ts lt terms in
      let others = each_key_at (AreIndices (remove bases n)) (part n code ts)
      (each-part (λ (t : ℤ × Key). AreIndices (remove bases n) t.1) n code ts
      (each_weaker (λ (t : ℤ × Key). AreIndices bases t.1) (λ (t : ℤ × Key). code ≡ code_at t.1 n → AreIndices (remove bases n) (remove t.1 n)) (λ t h here. indices-remove n bases t.1 h) ts indices)) in
      each_from (IsTermOf (AreIndices (remove bases n))) (part n code ts) (λ i below. (made.nonzero i below, others ((term_at (part n code ts) i).1) (i, below, refl)))

  -- the parts of two codes are the same exactly where the coefficients are
  pub parts_by_coefficients : (c e : List ℕ) → (part n c ts ≡ part n e ts) ↔ HaveSameCoefficients n bases ts c e
  parts_by_coefficients c e = (
    λ same others h. coefficient-part n c others ts (long others h) ∙ ap (λ us. coefficient us others) same ∙ sym (coefficient-part n e others ts (long others h)),
    λ same.
        same_terms (AreIndices (remove bases n)) (part n c ts) (part n e ts)
        (rising_from (part n c ts) (terms-part n bases c ts lt terms).rising) (rising_from (part n e ts) (terms-part n bases e ts lt terms).rising)
        (terms_of_part c) (terms_of_part e)
        (λ others h. sym (coefficient-part n c others ts (long others h)) ∙ same others h ∙ coefficient-part n e others ts (long others h)),
  )
