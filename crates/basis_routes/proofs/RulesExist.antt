-- The rules on indices have answers.
use Rattle.std.proofs.Common.{ℕ, ◌+◌, ◌≤◌, IsTrue, List, [], ◌∷◌}
use Rattle.built_bases.specs.Table.{is_built}
use Rattle.index_rules.specs.Changes.{operation_facts}
use Rattle.index_rules.specs.Laws.{HasAnswers, HasProducts}
use Rattle.index_rules.specs.Spaces.{limit_for}
use Rattle.realisations.specs.Answers.{IsAnswer}
use Rattle.realisations.specs.Combinations.{Combination}
use Rattle.realisations.specs.Indices.{IsIndex, degree_of}
use Rattle.realisations.specs.Readings.{antipode, coproduct, element, product}
use Rattle.antipodes.proofs.Antipodes.{antipodes_exist}
use Rattle.commuting_images.specs.Images.{HasImages}
use Rattle.commuting_images.proofs.ImagesExist.{images_exist}
use Rattle.fsym.proofs.Coproducts.{tableau_coproducts_exist}
use Rattle.fsym.proofs.Products.{tableau_products_exist}
use Rattle.fqsym.proofs.RulesExist.{all_coproducts_exist as fqsym_coproducts_exist, all_products_exist as fqsym_products_exist}
use Rattle.ncsf.proofs.RulesExist.{all_coproducts_exist as ncsf_coproducts_exist, all_products_exist as ncsf_products_exist}
use Rattle.pbt.proofs.Coproducts.{tree_coproducts_exist}
use Rattle.pbt.proofs.Products.{tree_products_exist}
use Rattle.qsym.proofs.RulesExist.{all_coproducts_exist as qsym_coproducts_exist, all_products_exist as qsym_products_exist}
use Rattle.wqsym.proofs.Coproducts.{monomial_coproducts}
use Rattle.wqsym.proofs.Products.{monomial_products}
use Rattle.basis_names.specs.declared.bases.BasisId.{BasisId}
use Rattle.basis_names.specs.declared.bases.BasisId.TheVariants.{QsymM, QsymF, NcsfS, NcsfL, NcsfR, FqsymF, FqsymG, WqsymM, FsymS, PbtP}
use Rattle.basis_names.specs.Bases.{algebra_of, limit_of}

-- a built basis has products
pub has_products : (basis : BasisId) → IsTrue (is_built basis) → (growth : ℕ) × HasProducts basis growth
has_products QsymM built = (2, qsym_products_exist.monomial)
has_products QsymF built = (4, qsym_products_exist.fundamental)
has_products NcsfS built = (0, ncsf_products_exist.complete)
has_products NcsfL built = (0, ncsf_products_exist.elementary)
has_products NcsfR built = (1, ncsf_products_exist.ribbon)
has_products FqsymF built = (1, fqsym_products_exist.fundamental)
has_products FqsymG built = (1, fqsym_products_exist.dual)
has_products WqsymM built = (2, monomial_products)
has_products FsymS built = (3, tableau_products_exist)
has_products PbtP built = (1, tree_products_exist)

-- and coproducts
pub has_coproducts : (basis : BasisId) → IsTrue (is_built basis) → (growth : ℕ) × HasAnswers (operation_facts coproduct basis (basis ∷ basis ∷ []) (limit_for basis) growth)
has_coproducts QsymM built = (1, qsym_coproducts_exist.monomial)
has_coproducts QsymF built = (1, qsym_coproducts_exist.fundamental)
has_coproducts NcsfS built = (1, ncsf_coproducts_exist.complete)
has_coproducts NcsfL built = (1, ncsf_coproducts_exist.elementary)
has_coproducts NcsfR built = (2, ncsf_coproducts_exist.ribbon)
has_coproducts FqsymF built = (1, fqsym_coproducts_exist.fundamental)
has_coproducts FqsymG built = (1, fqsym_coproducts_exist.dual)
has_coproducts WqsymM built = (1, monomial_coproducts)
has_coproducts FsymS built = (4, tableau_coproducts_exist)
has_coproducts PbtP built = (1, tree_coproducts_exist)

-- and commuting images
pub has_images : (basis : BasisId) → IsTrue (is_built basis) → HasImages basis
has_images QsymM built = images_exist.qsym_m
has_images QsymF built = images_exist.qsym_f
has_images NcsfS built = images_exist.ncsf_s
has_images NcsfL built = images_exist.ncsf_l
has_images NcsfR built = images_exist.ncsf_r
has_images FqsymF built = images_exist.fqsym_f
has_images FqsymG built = images_exist.fqsym_g
has_images WqsymM built = images_exist.wqsym_m
has_images FsymS built = images_exist.fsym_s
has_images PbtP built = images_exist.pbt_p

-- and antipodes
pub has_antipodes : (basis : BasisId) → IsTrue (is_built basis) → HasAnswers (operation_facts antipode basis (basis ∷ []) (limit_for basis) 5)
has_antipodes QsymM built = antipodes_exist.qsym_monomial
has_antipodes QsymF built = antipodes_exist.qsym_fundamental
has_antipodes NcsfS built = antipodes_exist.complete
has_antipodes NcsfL built = antipodes_exist.elementary
has_antipodes NcsfR built = antipodes_exist.ribbons
has_antipodes FqsymF built = antipodes_exist.fqsym_fundamental
has_antipodes FqsymG built = antipodes_exist.fqsym_dual
has_antipodes WqsymM built = antipodes_exist.wqsym_monomial
has_antipodes FsymS built = antipodes_exist.tableaux
has_antipodes PbtP built = antipodes_exist.trees

-- two elements of a built basis whose degrees add to at most the limit have a product
pub elements_product_exists : (basis : BasisId) (x y : List ℕ) → IsTrue (is_built basis) → IsIndex basis x → IsIndex basis y
    → degree_of basis x + degree_of basis y ≤ limit_of (algebra_of basis)
    → (c : Combination) × IsAnswer (basis ∷ []) (degree_of basis x + degree_of basis y) (product (element basis x) (element basis y)) c
elements_product_exists basis x y built hx hy le =
    let (growth, products) = has_products basis built in
    let (c, is) = products x y hx hy le in
    (c, is.answer)
