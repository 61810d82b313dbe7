-- Antipodes of the ten bases: they exist, and are found again in a memo.
use Rattle.std.proofs.Common.{◌≡◌, true, [], ◌∷◌, refl, sym, ◌∙◌, subst, arith}
use Rattle.std.proofs.Math.Logic.{∥∥₁_elim}
use Rattle.std.proofs.Props.{props}
use Rattle.basis_names.specs.declared.bases.BasisId.{BasisId}
use Rattle.basis_names.specs.declared.bases.BasisId.TheVariants.{QsymM, QsymF, NcsfS, NcsfL, NcsfR, FqsymF, FqsymG, WqsymM, FsymS, PbtP}
use Rattle.antipode_laws.specs.Recursion.{IsAntipodeOf}
use Rattle.antipodes.specs.Laws.{HasAntipodes, AntipodesExistLaw}
use Rattle.antipodes.proofs.AntipodesExist.{HasOperations, exists_by_recursion}
use Rattle.fqsym.proofs.RulesExist as f
use Rattle.fsym.proofs.Coproducts.{tableau_coproducts_exist}
use Rattle.fsym.proofs.Products.{tableau_products_exist}
use Rattle.index_rules.specs.Spaces.{IsIndexWithin}
use Rattle.index_rules.proofs.UniqueAnswers.{same_answers}
use Rattle.ncsf.proofs.RulesExist as n
use Rattle.pbt.proofs.Coproducts.{tree_coproducts_exist}
use Rattle.pbt.proofs.Products.{tree_products_exist}
use Rattle.qsym.proofs.RulesExist as q
use Rattle.realisations.specs.Codes.{Code}
use Rattle.realisations.specs.Combinations.{Combination}
use Rattle.realisations.specs.Indices.{degree_of}
use Rattle.realisations.specs.Readings.{applied, antipode, element}
use Rattle.wqsym.proofs.Coproducts.{monomial_coproducts}
use Rattle.wqsym.proofs.Products.{monomial_products}

-- the ten bases have coproducts and products
operations : (basis : BasisId) → HasOperations basis
operations QsymM = record { out = 1; back = 2; coproducts = q.all_coproducts_exist.monomial; products = q.all_products_exist.monomial; room = omega arith }
operations QsymF = record { out = 1; back = 4; coproducts = q.all_coproducts_exist.fundamental; products = q.all_products_exist.fundamental; room = omega arith }
operations NcsfS = record { out = 1; back = 0; coproducts = n.all_coproducts_exist.complete; products = n.all_products_exist.complete; room = omega arith }
operations NcsfL = record { out = 1; back = 0; coproducts = n.all_coproducts_exist.elementary; products = n.all_products_exist.elementary; room = omega arith }
operations NcsfR = record { out = 2; back = 1; coproducts = n.all_coproducts_exist.ribbon; products = n.all_products_exist.ribbon; room = omega arith }
operations FqsymF = record { out = 1; back = 1; coproducts = f.all_coproducts_exist.fundamental; products = f.all_products_exist.fundamental; room = omega arith }
operations FqsymG = record { out = 1; back = 1; coproducts = f.all_coproducts_exist.dual; products = f.all_products_exist.dual; room = omega arith }
operations WqsymM = record { out = 1; back = 2; coproducts = monomial_coproducts; products = monomial_products; room = omega arith }
operations FsymS = record { out = 4; back = 3; coproducts = tableau_coproducts_exist; products = tableau_products_exist; room = omega arith }
operations PbtP = record { out = 1; back = 1; coproducts = tree_coproducts_exist; products = tree_products_exist; room = omega arith }

-- so each index within the limit has an antipode
pub antipode_exists : (basis : BasisId) → (code : Code) → IsIndexWithin basis code → (c : Combination) × IsAntipodeOf basis code c
antipode_exists basis code within = exists_by_recursion basis (operations basis) (degree_of basis code) code within (omega arith)

-- as an answer of the rule
have_antipodes : (basis : BasisId) → HasAntipodes basis
have_antipodes basis code is =
    let (c, found) = antipode_exists basis code (record { index = is.index; degree = is.degree }) in
    (c, record { answer = found; norm = found.small })

-- the law
pub antipodes_exist : AntipodesExistLaw
antipodes_exist = record {
  qsym_monomial = have_antipodes QsymM;
  qsym_fundamental = have_antipodes QsymF;
  complete = have_antipodes NcsfS;
  elementary = have_antipodes NcsfL;
  ribbons = have_antipodes NcsfR;
  fqsym_fundamental = have_antipodes FqsymF;
  fqsym_dual = have_antipodes FqsymG;
  wqsym_monomial = have_antipodes WqsymM;
  tableaux = have_antipodes FsymS;
  trees = have_antipodes PbtP;
}

-- there is no other one, so what is known to be one by some proof is one
pub found_again : (basis : BasisId) → (code : Code) → IsIndexWithin basis code → (known : BasisId) (c found : Combination) → known ≡ basis → ∥ IsAntipodeOf known code c ∥₁ → found ≡ c → IsAntipodeOf basis code found
found_again basis code within known c found same is copied =
    let (d, antipode_is) = antipode_exists basis code within in
    let equal : c ≡ d =
    ∥∥₁_elim is (combinations_are_a_set c d) (λ known_is. same_answers (basis ∷ []) (degree_of basis code) (applied antipode 0 (element basis code)) c d (omega arith) (subst (λ b. IsAntipodeOf b code c) same known_is) antipode_is) in
    subst (IsAntipodeOf basis code) (sym (copied ∙ equal)) antipode_is
  where
    combinations_are_a_set : IsSet Combination
    combinations_are_a_set = Prim.hlevel props
