-- The rules of FQSym have answers.
use Rattle.std.proofs.Common.{suc, ◌≤◌, List, [], ◌∷◌, length, arith}
use Rattle.basis_names.specs.declared.bases.BasisId.{BasisId}
use Rattle.basis_names.specs.declared.bases.BasisId.TheVariants.{FqsymF, FqsymG}
use Rattle.change_laws.proofs.CoproductsExist.{coproducts_exist}
use Rattle.coproduct_laws.specs.Coproducts.{IsCoproductRule}
use Rattle.coproduct_laws.specs.ValueCuts.{value_cuts}
use Rattle.coproduct_laws.proofs.ValueRules.{value_rule}
use Rattle.coproduct_rules.specs.PlaceCuts.{place_cuts}
use Rattle.coproduct_rules.proofs.PlaceRule.{place_rule}
use Rattle.index_rules.specs.Rules.{IsAnswerWithin}
use Rattle.realisations.specs.Codes.{Code}
use Rattle.realisations.specs.Combinations.{Combination}
use Rattle.realisations.specs.Indices.{degree_of}
use Rattle.realisations.specs.Readings.{applied, coproduct, element}
use Rattle.fqsym.specs.Laws.{FqsymChangesExistLaw, FqsymCoproductsExistLaw, FqsymProductsExistLaw}
use Rattle.fqsym.proofs.Coproducts.{few_value_cuts, length-place_cuts, one_more}
use Rattle.fqsym.proofs.Products.{dual_changes, dual_products, fundamental_changes, fundamental_products}

-- both changes
pub changes_exist : FqsymChangesExistLaw
changes_exist = record { fundamental_in_dual = fundamental_changes; dual_in_fundamental = dual_changes }

-- a coproduct rule whose pairs are at most one more than the degree has an answer, within that number
pub coproduct_exists : (basis : BasisId) (code : Code) (pairs : List (Code × Code)) → IsCoproductRule basis code pairs → length pairs ≤ suc (degree_of basis code) → degree_of basis code ≤ 7
    → (c : Combination) × IsAnswerWithin 1 (basis ∷ basis ∷ []) (degree_of basis code) (applied coproduct 0 (element basis code)) c
coproduct_exists basis code pairs rule few le =
    let (c, is, norm) = coproducts_exist basis code pairs rule (omega (arith, few, le)) in
    (c, record { answer = is; norm = omega (arith, norm, one_more (length pairs) (degree_of basis code) few) })

-- both coproducts
pub all_coproducts_exist : FqsymCoproductsExistLaw
all_coproducts_exist = record {
  fundamental = λ code h. coproduct_exists FqsymF code (place_cuts code) (place_rule code h.index) (omega (arith, length-place_cuts code)) h.degree;
  dual = λ code h. coproduct_exists FqsymG code (value_cuts code) (value_rule code h.index) (omega (arith, few_value_cuts code (record { index = h.index; degree = h.degree }))) h.degree;
}

-- and both products
pub all_products_exist : FqsymProductsExistLaw
all_products_exist = record { fundamental = fundamental_products; dual = dual_products }
