-- The changes between the two bases of QSym.
use Rattle.std.proofs.Common.{◌≡◌, suc, ◌-◌, ◌*◌, ◌^◌, List, [], ◌∷◌, length, inl, inr, refl, ap, subst, arith}
use Rattle.std.specs.Prelude.{IsTrue}
use Rattle.std.specs.List.{All, sum}
use Rattle.std.proofs.Math.IntN.{pos}
use Rattle.basis_names.specs.declared.bases.BasisId.{BasisId}
use Rattle.basis_names.specs.declared.bases.BasisId.TheVariants.{QsymM, QsymF}
use Rattle.basis_representatives.proofs.Refinement.{same_or_longer}
use Rattle.change_laws.specs.Changes.{ListsRefinements, IsChanged, signed_terms}
use Rattle.change_laws.proofs.ListedSums.{each_listed}
use Rattle.change_laws.proofs.QsymChanges.{qsym_changes}
use Rattle.index_rules.specs.Rules.{IsAnswerWithin}
use Rattle.index_rules.specs.SignedSums.{signs_of}
use Rattle.index_rules.specs.declared.sums.Signs.TheVariants.{Plus, ByLength}
use Rattle.linear_combos.specs.Combos.{IsSumOfTerms}
use Rattle.realisations.specs.Codes.{Code}
use Rattle.realisations.specs.Combinations.{Combination}
use Rattle.realisations.specs.Descents.{is_finer}
use Rattle.realisations.specs.IndexKinds.{IsComposition}
use Rattle.realisations.specs.Lists.{with_sign}
use Rattle.realisations.specs.Readings.{element}

-- a change between the bases of QSym, as a rule
pub change_within : (from to : BasisId) (parts : Code) (c : Combination) → IsChanged from to parts c → IsAnswerWithin 1 (to ∷ []) (sum parts) (element from parts) c
change_within from to parts c is =
    let e : 1 * sum parts ≡ sum parts = omega arith in
    record { answer = is.answer; norm = omega (arith, is.norm, ap (λ k. 2 ^ k) e) }

-- the signs of a sum over finer compositions, in both forms
same_signs : (parts code : Code) → IsComposition parts → IsComposition code × IsTrue (is_finer code parts) → signs_of (ByLength (length parts)) code ≡ length code - length parts
same_signs parts code h (hc, finer) = elim (same_or_longer code parts hc h finer) [
  | inl same ↦ omega (arith, ap (λ (v : Code). length v) same)
  | inr longer ↦ omega (arith, longer)
]

same_terms : (parts : Code) (codes : List Code) → IsComposition parts → All (λ code. IsComposition code × IsTrue (is_finer code parts)) codes
    → signed_terms (signs_of (ByLength (length parts))) codes ≡ signed_terms (λ code. length code - length parts) codes
same_terms parts [] h each = refl
same_terms parts (v ∷ codes) h each =
    let first = same_signs parts v h (each 0 [] (omega arith)) in
    let rest = same_terms parts codes h (λ k d lt. each (suc k) d (omega (arith, lt))) in
    λ i. (with_sign (first i) (pos 1), v ∷ []) ∷ rest i

-- M in F
pub monomial_changed : (parts : Code) (codes : List Code) (c : Combination) → IsComposition parts → ListsRefinements parts codes → IsSumOfTerms 1 (signed_terms (signs_of (ByLength (length parts))) codes) c
    → IsAnswerWithin 1 (QsymF ∷ []) (sum parts) (element QsymM parts) c
monomial_changed parts codes c h lists is =
    change_within QsymM QsymF parts c
    (qsym_changes.monomial_in_fundamental parts h codes lists c
    (subst (λ ts. IsSumOfTerms 1 ts c) (same_terms parts codes h (each_listed (λ code. IsComposition code × IsTrue (is_finer code parts)) codes lists)) is))

-- F in M
pub fundamental_changed : (parts : Code) (codes : List Code) (c : Combination) → IsComposition parts → ListsRefinements parts codes → IsSumOfTerms 1 (signed_terms (signs_of Plus) codes) c
    → IsAnswerWithin 1 (QsymM ∷ []) (sum parts) (element QsymF parts) c
fundamental_changed parts codes c h lists is = change_within QsymF QsymM parts c (qsym_changes.fundamental_in_monomial parts h codes lists c is)
