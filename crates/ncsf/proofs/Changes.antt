-- The changes between the bases of NCSF.
use Rattle.std.proofs.Common.{◌≡◌, suc, ◌-◌, ◌*◌, ◌^◌, List, [], ◌∷◌, length, inl, inr, refl, sym, ap, subst, arith}
use Rattle.std.specs.Prelude.{IsTrue}
use Rattle.std.specs.List.{All, sum}
use Rattle.std.proofs.Math.IntN.{pos}
use Rattle.basis_names.specs.declared.bases.BasisId.{BasisId}
use Rattle.basis_names.specs.declared.bases.BasisId.TheVariants.{NcsfS, NcsfL, NcsfR}
use Rattle.basis_representatives.proofs.Complements.{complement-turned}
use Rattle.basis_representatives.proofs.Refinement.{IsComposition-complement, same_or_longer}
use Rattle.change_laws.specs.Changes.{ListsRefinements, ListsCoarsenings, IsChanged, signed_terms}
use Rattle.change_laws.proofs.ListedSums.{each_listed}
use Rattle.change_laws.proofs.NcsfChanges.{ncsf_changes}
use Rattle.index_rules.specs.Rules.{IsAnswerWithin}
use Rattle.index_rules.specs.SignedSums.{signs_of}
use Rattle.index_rules.specs.declared.sums.Signs.TheVariants.{Plus, ByLength}
use Rattle.linear_combos.specs.Combos.{IsSumOfTerms}
use Rattle.realisations.specs.Codes.{Code}
use Rattle.realisations.specs.Combinations.{Combination}
use Rattle.realisations.specs.Descents.{complement, is_finer}
use Rattle.realisations.specs.IndexKinds.{IsComposition}
use Rattle.realisations.specs.Lists.{with_sign}
use Rattle.realisations.specs.Readings.{element}

-- a change between the bases of NCSF, as a rule
pub change_within : (from to : BasisId) (parts : Code) (c : Combination) → IsChanged from to parts c → IsAnswerWithin 1 (to ∷ []) (sum parts) (element from parts) c
change_within from to parts c is =
    let e : 1 * sum parts ≡ sum parts = omega arith in
    record { answer = is.answer; norm = omega (arith, is.norm, ap (λ k. 2 ^ k) e) }

-- the signs of a sum over coarser compositions, in both forms
same_signs : (parts code : Code) → IsComposition parts → IsComposition code × IsTrue (is_finer parts code) → signs_of (ByLength (length parts)) code ≡ length parts - length code
same_signs parts code h (hc, finer) = elim (same_or_longer parts code h hc finer) [
  | inl same ↦ omega (arith, ap (λ (v : Code). length v) same)
  | inr longer ↦ omega (arith, longer)
]

same_terms : (parts : Code) (codes : List Code) → IsComposition parts → All (λ code. IsComposition code × IsTrue (is_finer parts code)) codes
    → signed_terms (signs_of (ByLength (length parts))) codes ≡ signed_terms (λ code. length parts - length code) codes
same_terms parts [] h each = refl
same_terms parts (v ∷ codes) h each =
    let first = same_signs parts v h (each 0 [] (omega arith)) in
    let rest = same_terms parts codes h (λ k d lt. each (suc k) d (omega (arith, lt))) in
    λ i. (with_sign (first i) (pos 1), v ∷ []) ∷ rest i

coarser_terms : (parts : Code) (codes : List Code) → IsComposition parts → ListsCoarsenings parts codes
    → signed_terms (signs_of (ByLength (length parts))) codes ≡ signed_terms (λ code. length parts - length code) codes
coarser_terms parts codes h lists = same_terms parts codes h (each_listed (λ code. IsComposition code × IsTrue (is_finer parts code)) codes lists)

complement_parts : (parts : Code) → IsComposition parts → IsComposition (complement parts)
complement_parts parts h = subst IsComposition (sym (complement-turned parts h)) (IsComposition-complement parts)

-- S in R
pub complete_changed : (parts : Code) (codes : List Code) (c : Combination) → IsComposition parts → ListsCoarsenings parts codes → IsSumOfTerms 1 (signed_terms (signs_of Plus) codes) c
    → IsAnswerWithin 1 (NcsfR ∷ []) (sum parts) (element NcsfS parts) c
complete_changed parts codes c h lists is = change_within NcsfS NcsfR parts c (ncsf_changes.complete_in_ribbon parts h codes lists c is)

-- R in S
pub ribbon_in_complete : (parts : Code) (codes : List Code) (c : Combination) → IsComposition parts → ListsCoarsenings parts codes → IsSumOfTerms 1 (signed_terms (signs_of (ByLength (length parts))) codes) c
    → IsAnswerWithin 1 (NcsfS ∷ []) (sum parts) (element NcsfR parts) c
ribbon_in_complete parts codes c h lists is =
    change_within NcsfR NcsfS parts c (ncsf_changes.ribbon_in_complete parts h codes lists c (subst (λ ts. IsSumOfTerms 1 ts c) (coarser_terms parts codes h lists) is))

-- L in R
pub elementary_changed : (parts : Code) (codes : List Code) (c : Combination) → IsComposition parts → ListsRefinements (complement parts) codes → IsSumOfTerms 1 (signed_terms (signs_of Plus) codes) c
    → IsAnswerWithin 1 (NcsfR ∷ []) (sum parts) (element NcsfL parts) c
elementary_changed parts codes c h lists is = change_within NcsfL NcsfR parts c (ncsf_changes.elementary_in_ribbon parts h codes lists c is)

-- R in L
pub ribbon_in_elementary : (parts : Code) (codes : List Code) (c : Combination) → IsComposition parts → ListsCoarsenings (complement parts) codes
    → IsSumOfTerms 1 (signed_terms (signs_of (ByLength (length (complement parts)))) codes) c → IsAnswerWithin 1 (NcsfL ∷ []) (sum parts) (element NcsfR parts) c
ribbon_in_elementary parts codes c h lists is =
    change_within NcsfR NcsfL parts c
    (ncsf_changes.ribbon_in_elementary parts h codes lists c (subst (λ ts. IsSumOfTerms 1 ts c) (coarser_terms (complement parts) codes (complement_parts parts h) lists) is))
