-- The rules of NCSF have answers.
use Rattle.std.proofs.Common.{ℕ, ◌+◌, ◌*◌, ◌^◌, ◌≤◌, List, [], ◌∷◌, ◌++◌, length, arith}
use Rattle.std.specs.List.{sum}
use Rattle.basis_names.specs.declared.bases.BasisId.{BasisId}
use Rattle.basis_names.specs.declared.bases.BasisId.TheVariants.{NcsfS, NcsfL, NcsfR}
use Rattle.change_laws.proofs.CoproductsExist.{coproducts_exist}
use Rattle.change_laws.proofs.NcsfChanges.{ncsf_changes_exist}
use Rattle.coproduct_laws.specs.Coproducts.{IsCoproductRule}
use Rattle.coproduct_rules.specs.PartCuts.{part_cuts}
use Rattle.coproduct_rules.proofs.PartPairs.{complete_rule, elementary_rule}
use Rattle.index_rules.specs.Rules.{IsAnswerWithin}
use Rattle.ncsf.specs.Laws.{NcsfChangesExistLaw, NcsfCoproductsExistLaw, NcsfProductsExistLaw}
use Rattle.ncsf.specs.PairLists.{ribbon_pairs}
use Rattle.ncsf.proofs.Changes.{change_within}
use Rattle.ncsf.proofs.Growth.{few_cuts, few_ribbons_of_two, one_is_few, power_from, product_found}
use Rattle.ncsf.proofs.RibbonRule.{pairs_rule, few_pairs_of_ribbon}
use Rattle.product_laws.specs.Ribbons.{ribbon_products}
use Rattle.product_laws.proofs.ConcatenationRules.{concatenation_rules}
use Rattle.product_laws.proofs.RibbonRule.{ribbon_rule}
use Rattle.realisations.specs.Codes.{Code}
use Rattle.realisations.specs.Combinations.{Combination}
use Rattle.realisations.specs.Indices.{degree_of}
use Rattle.realisations.specs.Readings.{applied, coproduct, element}

-- the four changes
pub changes_exist : NcsfChangesExistLaw
changes_exist = record {
  complete_in_ribbon = λ code h.
      let (c, is) = ncsf_changes_exist.complete_in_ribbon code h.index (omega (arith, h.degree)) in
      (c, change_within NcsfS NcsfR code c is);
  ribbon_in_complete = λ code h.
      let (c, is) = ncsf_changes_exist.ribbon_in_complete code h.index (omega (arith, h.degree)) in
      (c, change_within NcsfR NcsfS code c is);
  elementary_in_ribbon = λ code h.
      let (c, is) = ncsf_changes_exist.elementary_in_ribbon code h.index (omega (arith, h.degree)) in
      (c, change_within NcsfL NcsfR code c is);
  ribbon_in_elementary = λ code h.
      let (c, is) = ncsf_changes_exist.ribbon_in_elementary code h.index (omega (arith, h.degree)) in
      (c, change_within NcsfR NcsfL code c is);
}

-- a coproduct rule of a degree n of at most 10 with at most 2^(growth * n) pairs, the growth at most 2, has an answer within that number
coproduct_exists : (basis : BasisId) (code : Code) (pairs : List (Code × Code)) (growth : ℕ) → growth * degree_of basis code ≤ 20 → IsCoproductRule basis code pairs → length pairs ≤ 2 ^ (growth * degree_of basis code)
    → (c : Combination) × IsAnswerWithin growth (basis ∷ basis ∷ []) (degree_of basis code) (applied coproduct 0 (element basis code)) c
coproduct_exists basis code pairs growth le rule few =
    let (c, is, norm) = coproducts_exist basis code pairs rule (omega (arith, few, power_from (growth * degree_of basis code) 20 le)) in
    (c, record { answer = is; norm = omega (arith, norm, few) })

-- the three coproducts
pub all_coproducts_exist : NcsfCoproductsExistLaw
all_coproducts_exist = record {
  complete = λ code h. coproduct_exists NcsfS code (part_cuts code) 1 (omega (arith, h.degree)) (complete_rule code h.index) (few_cuts code);
  elementary = λ code h. coproduct_exists NcsfL code (part_cuts code) 1 (omega (arith, h.degree)) (elementary_rule code h.index) (few_cuts code);
  ribbon = λ code h. coproduct_exists NcsfR code (ribbon_pairs code) 2 (omega (arith, h.degree)) (pairs_rule code h.index) (few_pairs_of_ribbon code h.index);
}

-- the three products
pub all_products_exist : NcsfProductsExistLaw
all_products_exist = record {
  complete = λ j k hj hk le. product_found NcsfS j k ((j ++ k) ∷ []) 0 (concatenation_rules.complete j k hj hk) (one_is_few (sum j + sum k)) (omega arith);
  elementary = λ j k hj hk le. product_found NcsfL j k ((j ++ k) ∷ []) 0 (concatenation_rules.elementary j k hj hk) (one_is_few (sum j + sum k)) (omega arith);
  ribbon = λ j k hj hk le.
      product_found NcsfR j k (ribbon_products j k) 1 (ribbon_rule j k hj hk) (few_ribbons_of_two j k hj)
      (omega (arith, few_ribbons_of_two j k hj, power_from (1 * (sum j + sum k)) 10 (omega (arith, le))));
}
