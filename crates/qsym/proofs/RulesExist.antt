-- The rules of QSym have answers.
use Rattle.std.proofs.Common.{suc, ◌≤◌, List, [], ◌∷◌, length, refl, arith}
use Rattle.basis_names.specs.declared.bases.BasisId.{BasisId}
use Rattle.basis_names.specs.declared.bases.BasisId.TheVariants.{QsymM, QsymF}
use Rattle.change_laws.proofs.CoproductsExist.{coproducts_exist}
use Rattle.change_laws.proofs.QsymChanges.{qsym_changes_exist}
use Rattle.compositions.proofs.Existence.{product_exists}
use Rattle.coproduct_laws.specs.Coproducts.{IsCoproductRule}
use Rattle.coproduct_laws.proofs.MonomialRule.{monomial_rule}
use Rattle.coproduct_rules.specs.DegreeCuts.{degree_cuts}
use Rattle.coproduct_rules.proofs.DegreePairs.{fundamental_rule}
use Rattle.coproduct_rules.proofs.FewPairs.{few_pairs}
use Rattle.index_rules.specs.Laws.{HasProducts}
use Rattle.index_rules.specs.Rules.{IsAnswerWithin}
use Rattle.index_rules.proofs.ProductsByChangeExist.{products_by_change_exist}
use Rattle.qsym.specs.Laws.{QsymChangesExistLaw, QsymCoproductsExistLaw, QsymProductsExistLaw}
use Rattle.qsym.proofs.Changes.{change_within}
use Rattle.qsym.proofs.Growth.{product_within, small_number}
use Rattle.realisations.specs.Codes.{Code}
use Rattle.realisations.specs.Combinations.{Combination}
use Rattle.realisations.specs.Indices.{degree_of}
use Rattle.realisations.specs.Readings.{applied, coproduct, element}
use Rattle.realisations.specs.Words.{word_cuts}

-- both changes
pub changes_exist : QsymChangesExistLaw
changes_exist = record {
  fundamental_in_monomial = λ code h.
      let (c, is) = qsym_changes_exist.fundamental_in_monomial code h.index (omega (arith, h.degree)) in
      (c, change_within QsymF QsymM code c is);
  monomial_in_fundamental = λ code h.
      let (c, is) = qsym_changes_exist.monomial_in_fundamental code h.index (omega (arith, h.degree)) in
      (c, change_within QsymM QsymF code c is);
}

-- a coproduct rule whose pairs are at most one more than the degree has an answer, within that number
coproduct_exists : (basis : BasisId) (code : Code) (pairs : List (Code × Code)) → IsCoproductRule basis code pairs → length pairs ≤ suc (degree_of basis code) → degree_of basis code ≤ 12
    → (c : Combination) × IsAnswerWithin 1 (basis ∷ basis ∷ []) (degree_of basis code) (applied coproduct 0 (element basis code)) c
coproduct_exists basis code pairs rule few le =
    let small = small_number (length pairs) (degree_of basis code) few le in
    let (c, is, norm) = coproducts_exist basis code pairs rule small.1 in
    (c, record { answer = is; norm = omega (arith, norm, small.0) })

-- both coproducts
pub all_coproducts_exist : QsymCoproductsExistLaw
all_coproducts_exist = record {
  monomial = λ code h. coproduct_exists QsymM code (word_cuts code) (monomial_rule code h.index) (few_pairs.monomial code h.index) (omega (arith, h.degree));
  fundamental = λ code h. coproduct_exists QsymF code (degree_cuts code) (fundamental_rule code h.index) (omega (arith, few_pairs.fundamental code)) (omega (arith, h.degree));
}

-- products over M are sums of quasi-shuffles
monomial_products : HasProducts QsymM 2
monomial_products j k hj hk within =
    let (c, is) = product_exists j k hj hk (omega (arith, within)) in
    (c, product_within j k c hj hk (omega (arith, within)) is)

-- and over F they are by these
pub all_products_exist : QsymProductsExistLaw
all_products_exist = record {
  monomial = monomial_products;
  fundamental = products_by_change_exist QsymF QsymM 1 2 1 refl (omega arith) (omega arith) changes_exist.fundamental_in_monomial monomial_products changes_exist.monomial_in_fundamental;
}
