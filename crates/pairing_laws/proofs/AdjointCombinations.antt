-- Product and coproduct of combinations are adjoint under the pairing of their algebras.
use Rattle.std.proofs.Common.{◌≡◌, ◌⊎◌, ℕ, ◌*◌, true, [], ◌∷◌, refl, sym, ◌∙◌, ap, subst, inl, inr}
use Rattle.std.specs.Prelude.{IsTrue}
use Rattle.std.proofs.Math.IntN.{pos, ◌*ℤ◌}
use Rattle.basis_names.specs.Bases.{algebra_of}
use Rattle.basis_names.specs.declared.bases.AlgebraId.{AlgebraId}
use Rattle.basis_names.specs.declared.bases.AlgebraId.TheVariants.{Qsym, Ncsf, Fqsym, Wqsym, Fsym, Pbt}
use Rattle.basis_names.specs.declared.bases.BasisId.{BasisId}
use Rattle.realisations.specs.Bases.{kind_of, lies_in}
use Rattle.realisations.specs.Points.{Kind, exponents, word, Points, ArePoints}
use Rattle.realisations.specs.Readings.{Terms, Reading, leaf, applied, coproduct, product, tensor, pairing, kinds_of, denominator, AgreeAt}
use Rattle.pairing_laws.specs.Adjoints.{AreAdjoint, ArePaired, CombinationsLaw}
use Rattle.pairing_laws.specs.PairedAlgebras.{is_paired}
use Rattle.pairing_laws.specs.Sight.{IsUpTo}
use Rattle.pairing_laws.proofs.Adjointness.{adjoint}
use Rattle.pairing_laws.proofs.PairingsAgree.{pairing_agrees}
use Rattle.pairing_laws.proofs.Sights.{words_of_fqsym, exponents_of_qsym, sees_standardisation, sees_descents, sees_parts, leaf_up_to}

-- two algebras in FQSym, or NCSF with QSym, or QSym with NCSF
abbrev Row : AlgebraId → AlgebraId → Type 0
Row a b = ((lies_in a Fqsym ≡ true) × (lies_in b Fqsym ≡ true)) ⊎ (((a ≡ Ncsf) × (b ≡ Qsym)) ⊎ ((a ≡ Qsym) × (b ≡ Ncsf)))

row : (a b : AlgebraId) → IsTrue (is_paired a b) → Row a b
row Qsym Ncsf h = inr (inr (refl, refl))
row Qsym Qsym h = absurd (cc)
row Qsym Fqsym h = absurd (cc)
row Qsym Wqsym h = absurd (cc)
row Qsym Fsym h = absurd (cc)
row Qsym Pbt h = absurd (cc)
row Ncsf Qsym h = inr (inl (refl, refl))
row Ncsf Ncsf h = inl (refl, refl)
row Ncsf Fqsym h = inl (refl, refl)
row Ncsf Wqsym h = absurd (cc)
row Ncsf Fsym h = inl (refl, refl)
row Ncsf Pbt h = inl (refl, refl)
row Wqsym b h = absurd (cc)
row Fqsym b h = inl (refl, h)
row Fsym b h = inl (refl, h)
row Pbt b h = inl (refl, h)

no_kind : word ≡ exponents → ⊥
no_kind e = absurd (cc)

no_words : (b : AlgebraId) → lies_in b Fqsym ≡ true → b ≡ Qsym → ⊥
no_words b h e = let none = ap (λ c. lies_in c Fqsym) (sym e) ∙ h in absurd (cc)

module _ (n : ℕ) (left right basis : BasisId) (d e f : ℕ) (ts us vs : Terms) (are : ArePaired n left right basis vs) where
  abbrev a : Reading
  a = leaf (left ∷ []) d ts

  abbrev b : Reading
  b = leaf (right ∷ []) e us

  abbrev c : Reading
  c = leaf (basis ∷ []) f vs

  up_to : (kind : Kind) → kind_of basis ≡ kind → IsUpTo n kind c
  up_to kind is = subst (λ k. IsUpTo n k c) is (leaf_up_to n basis f vs are.degrees)

  by_rows : Row (algebra_of left) (algebra_of basis) → Row (algebra_of right) (algebra_of basis) → AreAdjoint n a b c
  by_rows (inl l) (inl r) = adjoint.words n a b c (sees_standardisation left l.0 d ts) (sees_standardisation right r.0 e us) (up_to word (words_of_fqsym basis l.1))
  by_rows (inl l) (inr (inl r)) = absurd (no_words (algebra_of basis) l.1 r.1)
  by_rows (inl l) (inr (inr r)) = absurd (no_kind (sym (words_of_fqsym left l.0) ∙ are.kinds ∙ exponents_of_qsym right r.0))
  by_rows (inr (inl l)) (inl r) = absurd (no_words (algebra_of basis) r.1 l.1)
  by_rows (inr (inl l)) (inr (inl r)) = adjoint.words_with_exponents n a b c (sees_descents left l.0 d ts) (sees_descents right r.0 e us) (up_to exponents (exponents_of_qsym basis l.1))
  by_rows (inr (inl l)) (inr (inr r)) = let none = sym l.1 ∙ r.1 in absurd (cc)
  by_rows (inr (inr l)) (inl r) = absurd (no_kind (sym (words_of_fqsym right r.0) ∙ sym are.kinds ∙ exponents_of_qsym left l.0))
  by_rows (inr (inr l)) (inr (inl r)) = let none = sym l.1 ∙ r.1 in absurd (cc)
  by_rows (inr (inr l)) (inr (inr r)) =
      adjoint.exponents_with_words n a b c (sees_parts left l.0 d ts) (sees_parts right r.0 e us) (sees_descents basis l.1 f vs)
      (up_to word (words_of_fqsym basis (ap (λ g. lies_in g Fqsym) l.1)))

  as_readings : AreAdjoint n a b c
  as_readings = by_rows (row (algebra_of left) (algebra_of basis) are.first) (row (algebra_of right) (algebra_of basis) are.second)

  with_product : (p : Reading) → kinds_of p ≡ kind_of left ∷ [] → ((ps : Points) → ArePoints (kinds_of p) ps → AgreeAt p (product a b) ps) →
      AgreeAt (pairing n p c) (pairing n (tensor a b) (applied coproduct 0 c)) []
  with_product p kinds agree =
      pairing_agrees n p (product a b) c c kinds refl agree (λ ps h. refl)
      ∙ ap (λ z. z *ℤ pos (denominator p * f)) as_readings

  with_coproduct : (g : Reading) → kinds_of g ≡ kind_of basis ∷ kind_of basis ∷ [] → ((ps : Points) → ArePoints (kinds_of g) ps → AgreeAt g (applied coproduct 0 c) ps) →
      AgreeAt (pairing n (tensor a b) g) (pairing n (product a b) c) []
  with_coproduct g kinds agree =
      pairing_agrees n (tensor a b) (tensor a b) g (applied coproduct 0 c) refl kinds (λ ps h. refl) agree
      ∙ ap (λ z. z *ℤ pos ((d * e) * denominator g)) (sym as_readings)

-- the law
pub adjoint_combinations : CombinationsLaw
adjoint_combinations = record { readings = as_readings; products = with_product; coproducts = with_coproduct }
