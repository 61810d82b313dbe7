-- The coproducts of elements, and their norms.
use Rattle.std.proofs.Common.{◌*◌, ◌^◌, ◌≤◌, List, [], ◌∷◌, length, arith}
use Rattle.std.proofs.Math.Pow.{pow_mono}
use Rattle.basis_names.specs.declared.bases.BasisId.TheVariants.{FsymS}
use Rattle.change_laws.proofs.CoproductsExist.{coproducts_exist}
use Rattle.coproduct_laws.specs.Coproducts.{terms_of_pairs}
use Rattle.index_rules.specs.Changes.{operation_facts}
use Rattle.index_rules.specs.Laws.{HasAnswers}
use Rattle.index_rules.specs.Rules.{IsAnswerWithin}
use Rattle.index_rules.specs.Spaces.{limit_for}
use Rattle.index_rules.proofs.PairAnswers.{pairs_within}
use Rattle.linear_combos.specs.Combos.{IsSumOfTerms}
use Rattle.realisations.specs.Codes.{Code}
use Rattle.realisations.specs.Combinations.{Combination}
use Rattle.realisations.specs.Readings.{applied, coproduct, element}
use Rattle.tableau_coproducts.specs.ClassCuts.{ListsClass, class_cuts}
use Rattle.tableau_coproducts.proofs.Classes.{tableau_coproduct}

-- a combination is the coproduct of an element, of norm at most 2^(4n)
abbrev pub IsTableauCoproductWithin : Code → Combination → Type 0
IsTableauCoproductWithin t c = IsAnswerWithin 4 (FsymS ∷ FsymS ∷ []) (length t) (applied coproduct 0 (element FsymS t)) c

module _ (t : Code) (small : length t ≤ 7) (words : List Code) (lists : ListsClass t words) where
  few_cuts : length (class_cuts words) ≤ 2 ^ (4 * length t)
  few_cuts = tableau_coproduct.few 3 t words (omega (arith, small)) lists

  -- the sum of the pairs of the cuts of the class is it
  pub cuts_within : (c : Combination) → IsSumOfTerms 2 (terms_of_pairs (class_cuts words)) c → IsTableauCoproductWithin t c
  cuts_within c is = pairs_within FsymS t (class_cuts words) (tableau_coproduct.rule t words (omega (arith, small)) lists) 4 few_cuts c is

-- and each element has one
pub tableau_coproducts_exist : HasAnswers (operation_facts coproduct FsymS (FsymS ∷ FsymS ∷ []) (limit_for FsymS) 4)
tableau_coproducts_exist t h =
    let small : length t ≤ 7 = omega (arith, h.degree) in
    let (words, lists) = tableau_coproduct.classes t in
    let few = few_cuts t small words lists in
    let most : 2 ^ (4 * length t) ≤ 2 ^ 28 = pow_mono {j = 28} (omega (arith, small)) in
    let (c, is, norm) = coproducts_exist FsymS t (class_cuts words) (tableau_coproduct.rule t words (omega (arith, small)) lists) (omega (arith, few, most)) in
    (c, record { answer = is; norm = omega (arith, norm, few) })
