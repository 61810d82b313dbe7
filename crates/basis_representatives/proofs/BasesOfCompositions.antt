-- The representatives of the bases indexed by compositions.
use Rattle.std.proofs.Common.{◌≡◌, ◌⊎◌, ℕ, zero, suc, ◌-◌, ◌<◌, true, List, [], ◌∷◌, length, refl, sym, ◌∙◌, ap, arith, inl, inr}
use Rattle.std.specs.List.{sum}
use Rattle.basis_names.specs.declared.bases.BasisId.{BasisId}
use Rattle.basis_names.specs.declared.bases.BasisId.TheVariants.{QsymM, QsymF, NcsfR, NcsfS, NcsfL}
use Rattle.realisations.specs.Lists.{same_list}
use Rattle.realisations.specs.Exponents.{without_zeros}
use Rattle.realisations.specs.Descents.{is_finer, word_of_composition, complement}
use Rattle.realisations.specs.IndexKinds.{IsComposition}
use Rattle.realisations.specs.Occurrence.{occurs}
use Rattle.basis_representatives.specs.Laws.{AreClasses}
use Rattle.basis_representatives.specs.Representatives.{HasRepresentatives}
use Rattle.basis_representatives.proofs.PointsOfIndices.{representative_point}
use Rattle.basis_representatives.proofs.Bits.{turned_composition}
use Rattle.basis_representatives.proofs.Complements.{complement-turned}
use Rattle.basis_representatives.proofs.BlockWords.{descent_composition-word_of_composition}
use Rattle.basis_representatives.proofs.ClassTests.{is_complementary, occurs-fundamental, occurs-complete, occurs-elementary}
use Rattle.basis_representatives.proofs.SameLists.{same_list-self, same_list-true}
use Rattle.basis_representatives.proofs.Refinement.{is_finer-self, sum-finer, same_or_longer, length-composition, IsComposition-complement, is_complementary-complement}

-- a class basis has its representatives
pub representatives_of_classes : (basis : BasisId) → AreClasses basis → HasRepresentatives basis
representatives_of_classes basis classes = record {
  measure = λ code. 0;
  point = representative_point basis;
  own = λ index h. classes index h index h ∙ same_list-self index;
  others = λ index code h hc there. inl (sym (same_list-true index code (sym (classes index h code hc) ∙ there)));
}

-- a composition has no zeros
without_zeros-composition : (code : List ℕ) → IsComposition code → without_zeros code ≡ code
without_zeros-composition [] h = refl
without_zeros-composition (zero ∷ code) h = absurd (omega (arith, h.0))
without_zeros-composition (suc n ∷ code) h = ap (λ p. suc n ∷ p) (without_zeros-composition code h.1)

-- M of I occurs at I, as exponents, alone
pub classes_of_exponents : AreClasses QsymM
classes_of_exponents index h code h' = ap (λ p. same_list p code) (without_zeros-composition index h)

-- R of I occurs at the word of I alone
pub classes_of_ribbons : AreClasses NcsfR
classes_of_ribbons index h code h' = ap (λ parts. same_list parts code) (descent_composition-word_of_composition index h)

-- F of I occurs at J, as exponents, where J is finer than I or equal to it
pub fundamental_at-representative : (code index : List ℕ) → IsComposition index → occurs QsymF code index ≡ is_finer index code
fundamental_at-representative code index h = occurs-fundamental code index ∙ ap (λ parts. is_finer parts code) (without_zeros-composition index h)

-- S of I occurs at the word of J where J is coarser than I or equal to it
pub complete_at-representative : (code index : List ℕ) → IsComposition index → occurs NcsfS code (word_of_composition index) ≡ is_finer code index
complete_at-representative code index h = occurs-complete code (word_of_composition index) ∙ ap (is_finer code) (descent_composition-word_of_composition index h)

-- L of I occurs at the word of the complement of J where J is coarser than I or equal to it
pub elementary_at-representative : (code index : List ℕ) → IsComposition code → IsComposition index
    → occurs NcsfL code (word_of_composition (complement index)) ≡ is_finer code index
elementary_at-representative code index hc h =
    let turned = turned_composition index in
    ap (λ parts. occurs NcsfL code (word_of_composition parts)) (complement-turned index h)
    ∙ occurs-elementary code (word_of_composition turned)
    ∙ ap (is_complementary code) (descent_composition-word_of_composition turned (IsComposition-complement index))
    ∙ is_complementary-complement code index hc h

-- how much larger the size of a composition is than the number of its parts: more for coarser ones
abbrev pub coarseness : List ℕ → ℕ
coarseness parts = sum parts - length parts

-- a code that an index refines is that index, or a finer one, which is less coarse
pub same_or_coarser : (code index : List ℕ) → IsComposition code → IsComposition index → is_finer code index ≡ true → (code ≡ index) ⊎ (coarseness code < coarseness index)
same_or_coarser code index hc h finer = elim (same_or_longer code index hc h finer) [
  | inl same ↦ inl same
  | inr longer ↦ inr (omega (arith, sum-finer code index finer, length-composition code hc))
]

-- F of I is triangular in the number of parts
pub fundamental_representatives : HasRepresentatives QsymF
fundamental_representatives = record {
  point = representative_point QsymF;
  measure = λ code. length code;
  own = λ index h. fundamental_at-representative index index h ∙ is_finer-self index h;
  others = λ index code h hc there. elim (same_or_longer index code h hc (sym (fundamental_at-representative code index h) ∙ there)) [
    | inl same ↦ inl (sym same)
    | inr longer ↦ inr longer
  ];
}

-- S of I in the coarseness
pub complete_representatives : HasRepresentatives NcsfS
complete_representatives = record {
  point = representative_point NcsfS;
  measure = coarseness;
  own = λ index h. complete_at-representative index index h ∙ is_finer-self index h;
  others = λ index code h hc there. same_or_coarser code index hc h (sym (complete_at-representative code index h) ∙ there);
}

-- and so L of I
pub elementary_representatives : HasRepresentatives NcsfL
elementary_representatives = record {
  point = representative_point NcsfL;
  measure = coarseness;
  own = λ index h. elementary_at-representative index index h h ∙ is_finer-self index h;
  others = λ index code h hc there. same_or_coarser code index hc h (sym (elementary_at-representative code index hc h) ∙ there);
}
