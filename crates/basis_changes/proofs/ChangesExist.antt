-- The changes have answers.
use Rattle.std.proofs.Common.{◌≡◌, ◌≢◌, ℕ, ◌+◌, ◌≤◌, IsTrue, false, refl, sym, ◌∙◌, arith, min}
use Rattle.std.proofs.lemmas.Bool.{false≢true}
use Rattle.basis_names.specs.Bases.{algebra_of}
use Rattle.basis_names.specs.declared.bases.BasisId.{BasisId}
use Rattle.basis_names.specs.declared.bases.BasisId.TheVariants.{QsymM, QsymF, NcsfS, NcsfL, NcsfR, FqsymF, FqsymG, WqsymM, FsymS, PbtP}
use Rattle.basis_changes.specs.Laws.{ChangesExistLaw}
use Rattle.basis_changes.proofs.ChangesBetween.{change_of}
use Rattle.built_bases.specs.Table.{is_built}
use Rattle.fqsym.proofs.RulesExist.{changes_exist as in_fqsym}
use Rattle.inclusion_rules.proofs.InclusionsExist.{all_inclusions_exist as included}
use Rattle.index_rules.specs.Laws.{HasAnswers}
use Rattle.index_rules.specs.Spaces.{limit_for}
use Rattle.index_rules.proofs.LiftsExist.{lifts_exist}
use Rattle.index_rules.proofs.ProductsByChange.{limit-small, can_change, changed_answer}
use Rattle.ncsf.proofs.RulesExist.{changes_exist as in_ncsf}
use Rattle.qsym.proofs.RulesExist.{changes_exist as in_qsym}
use Rattle.realisations.specs.Bases.{kind_of, lies_in}
use Rattle.realisations.specs.Indices.{degree_of}
use Rattle.realisations.specs.Readings.{element}

-- a change to a third basis and one from there make one, where the degree is within its limit and both growths add to at most 5
pub way_exists : (from over to : BasisId) (there growth : ℕ) → kind_of over ≡ kind_of to → min (limit_for from) (limit_for to) ≤ limit_for over → there + growth ≤ 5
    → HasAnswers (change_of from over there) → HasAnswers (change_of over to growth) → HasAnswers (change_of from to (there + growth))
way_exists from over to there growth kinds limits five first rest code h =
    let n : ℕ = degree_of from code in
    let limit = limit-small from in
    let (c, is) = first code (record { index = h.index; degree = omega (arith, h.degree, limits) }) in
    let can = can_change over to (min (limit_for over) (limit_for to)) growth there n (element from code) c is (omega (arith, h.degree, limits)) (omega (arith, h.degree, limit)) in
    let (d, lifted) = lifts_exist (change_of over to growth) rest 0 c is.answer.canonical can in
    (d, changed_answer over to (min (limit_for over) (limit_for to)) growth there n (element from code) c is five (sym kinds) d lifted)

-- what is so of the built bases is so of each basis that is built
of_built : (P : BasisId → Type 0) → P QsymM → P QsymF → P NcsfS → P NcsfL → P NcsfR → P FqsymF → P FqsymG → P WqsymM → P FsymS → P PbtP → (basis : BasisId) → IsTrue (is_built basis) → P basis
of_built P m f s l r f' g w t p QsymM built = m
of_built P m f s l r f' g w t p QsymF built = f
of_built P m f s l r f' g w t p NcsfS built = s
of_built P m f s l r f' g w t p NcsfL built = l
of_built P m f s l r f' g w t p NcsfR built = r
of_built P m f s l r f' g w t p FqsymF built = f'
of_built P m f s l r f' g w t p FqsymG built = g
of_built P m f s l r f' g w t p WqsymM built = w
of_built P m f s l r f' g w t p FsymS built = t
of_built P m f s l r f' g w t p PbtP built = p

-- the change from one basis to another
abbrev Changes : BasisId → BasisId → Type 0
Changes from to = IsTrue (lies_in (algebra_of from) (algebra_of to)) → from ≢ to → (growth : ℕ) × HasAnswers (change_of from to growth)

itself : (basis : BasisId) → Changes basis basis
itself basis inside different = absurd (different refl)

outside : (from to : BasisId) → false ≡ lies_in (algebra_of from) (algebra_of to) → Changes from to
outside from to not inside different = absurd (false≢true (not ∙ inside))

-- by one rule
by_rule : (from to : BasisId) (growth : ℕ) → HasAnswers (change_of from to growth) → Changes from to
by_rule from to growth rule inside different = (growth, rule)

-- by way of the ribbons
by_ribbons : (from to : BasisId) (growth : ℕ) → kind_of NcsfR ≡ kind_of to → min (limit_for from) (limit_for to) ≤ limit_for NcsfR → 1 + growth ≤ 5
    → HasAnswers (change_of from NcsfR 1) → HasAnswers (change_of NcsfR to growth) → Changes from to
by_ribbons from to growth kinds limits five first rest inside different = (1 + growth, way_exists from NcsfR to 1 growth kinds limits five first rest)

from_monomial : (to : BasisId) → IsTrue (is_built to) → Changes QsymM to
from_monomial =
    of_built (Changes QsymM)
    (itself QsymM)
    (by_rule QsymM QsymF 1 in_qsym.monomial_in_fundamental)
    (outside QsymM NcsfS refl)
    (outside QsymM NcsfL refl)
    (outside QsymM NcsfR refl)
    (outside QsymM FqsymF refl)
    (outside QsymM FqsymG refl)
    (outside QsymM WqsymM refl)
    (outside QsymM FsymS refl)
    (outside QsymM PbtP refl)

from_fundamental : (to : BasisId) → IsTrue (is_built to) → Changes QsymF to
from_fundamental =
    of_built (Changes QsymF)
    (by_rule QsymF QsymM 1 in_qsym.fundamental_in_monomial)
    (itself QsymF)
    (outside QsymF NcsfS refl)
    (outside QsymF NcsfL refl)
    (outside QsymF NcsfR refl)
    (outside QsymF FqsymF refl)
    (outside QsymF FqsymG refl)
    (outside QsymF WqsymM refl)
    (outside QsymF FsymS refl)
    (outside QsymF PbtP refl)

from_complete : (to : BasisId) → IsTrue (is_built to) → Changes NcsfS to
from_complete =
    of_built (Changes NcsfS)
    (outside NcsfS QsymM refl)
    (outside NcsfS QsymF refl)
    (itself NcsfS)
    (by_ribbons NcsfS NcsfL 1 refl (omega arith) (omega arith) in_ncsf.complete_in_ribbon in_ncsf.ribbon_in_elementary)
    (by_rule NcsfS NcsfR 1 in_ncsf.complete_in_ribbon)
    (by_ribbons NcsfS FqsymF 3 refl (omega arith) (omega arith) in_ncsf.complete_in_ribbon included.ribbons_in_fqsym_f)
    (by_ribbons NcsfS FqsymG 3 refl (omega arith) (omega arith) in_ncsf.complete_in_ribbon included.ribbons_in_fqsym_g)
    (by_ribbons NcsfS WqsymM 3 refl (omega arith) (omega arith) in_ncsf.complete_in_ribbon included.ribbons_in_wqsym)
    (by_ribbons NcsfS FsymS 3 refl (omega arith) (omega arith) in_ncsf.complete_in_ribbon included.ribbons_in_fsym)
    (by_ribbons NcsfS PbtP 3 refl (omega arith) (omega arith) in_ncsf.complete_in_ribbon included.ribbons_in_pbt)

from_elementary : (to : BasisId) → IsTrue (is_built to) → Changes NcsfL to
from_elementary =
    of_built (Changes NcsfL)
    (outside NcsfL QsymM refl)
    (outside NcsfL QsymF refl)
    (by_ribbons NcsfL NcsfS 1 refl (omega arith) (omega arith) in_ncsf.elementary_in_ribbon in_ncsf.ribbon_in_complete)
    (itself NcsfL)
    (by_rule NcsfL NcsfR 1 in_ncsf.elementary_in_ribbon)
    (by_ribbons NcsfL FqsymF 3 refl (omega arith) (omega arith) in_ncsf.elementary_in_ribbon included.ribbons_in_fqsym_f)
    (by_ribbons NcsfL FqsymG 3 refl (omega arith) (omega arith) in_ncsf.elementary_in_ribbon included.ribbons_in_fqsym_g)
    (by_ribbons NcsfL WqsymM 3 refl (omega arith) (omega arith) in_ncsf.elementary_in_ribbon included.ribbons_in_wqsym)
    (by_ribbons NcsfL FsymS 3 refl (omega arith) (omega arith) in_ncsf.elementary_in_ribbon included.ribbons_in_fsym)
    (by_ribbons NcsfL PbtP 3 refl (omega arith) (omega arith) in_ncsf.elementary_in_ribbon included.ribbons_in_pbt)

from_ribbon : (to : BasisId) → IsTrue (is_built to) → Changes NcsfR to
from_ribbon =
    of_built (Changes NcsfR)
    (outside NcsfR QsymM refl)
    (outside NcsfR QsymF refl)
    (by_rule NcsfR NcsfS 1 in_ncsf.ribbon_in_complete)
    (by_rule NcsfR NcsfL 1 in_ncsf.ribbon_in_elementary)
    (itself NcsfR)
    (by_rule NcsfR FqsymF 3 included.ribbons_in_fqsym_f)
    (by_rule NcsfR FqsymG 3 included.ribbons_in_fqsym_g)
    (by_rule NcsfR WqsymM 3 included.ribbons_in_wqsym)
    (by_rule NcsfR FsymS 3 included.ribbons_in_fsym)
    (by_rule NcsfR PbtP 3 included.ribbons_in_pbt)

from_permutation : (to : BasisId) → IsTrue (is_built to) → Changes FqsymF to
from_permutation =
    of_built (Changes FqsymF)
    (outside FqsymF QsymM refl)
    (outside FqsymF QsymF refl)
    (outside FqsymF NcsfS refl)
    (outside FqsymF NcsfL refl)
    (outside FqsymF NcsfR refl)
    (itself FqsymF)
    (by_rule FqsymF FqsymG 0 in_fqsym.fundamental_in_dual)
    (by_rule FqsymF WqsymM 3 included.fqsym_f_in_wqsym)
    (outside FqsymF FsymS refl)
    (outside FqsymF PbtP refl)

from_dual : (to : BasisId) → IsTrue (is_built to) → Changes FqsymG to
from_dual =
    of_built (Changes FqsymG)
    (outside FqsymG QsymM refl)
    (outside FqsymG QsymF refl)
    (outside FqsymG NcsfS refl)
    (outside FqsymG NcsfL refl)
    (outside FqsymG NcsfR refl)
    (by_rule FqsymG FqsymF 0 in_fqsym.dual_in_fundamental)
    (itself FqsymG)
    (by_rule FqsymG WqsymM 3 included.fqsym_g_in_wqsym)
    (outside FqsymG FsymS refl)
    (outside FqsymG PbtP refl)

from_packed : (to : BasisId) → IsTrue (is_built to) → Changes WqsymM to
from_packed =
    of_built (Changes WqsymM)
    (outside WqsymM QsymM refl)
    (outside WqsymM QsymF refl)
    (outside WqsymM NcsfS refl)
    (outside WqsymM NcsfL refl)
    (outside WqsymM NcsfR refl)
    (outside WqsymM FqsymF refl)
    (outside WqsymM FqsymG refl)
    (itself WqsymM)
    (outside WqsymM FsymS refl)
    (outside WqsymM PbtP refl)

from_tableau : (to : BasisId) → IsTrue (is_built to) → Changes FsymS to
from_tableau =
    of_built (Changes FsymS)
    (outside FsymS QsymM refl)
    (outside FsymS QsymF refl)
    (outside FsymS NcsfS refl)
    (outside FsymS NcsfL refl)
    (outside FsymS NcsfR refl)
    (by_rule FsymS FqsymF 3 included.tableaux_in_fqsym_f)
    (by_rule FsymS FqsymG 3 included.tableaux_in_fqsym_g)
    (by_rule FsymS WqsymM 3 included.tableaux_in_wqsym)
    (itself FsymS)
    (outside FsymS PbtP refl)

from_tree : (to : BasisId) → IsTrue (is_built to) → Changes PbtP to
from_tree =
    of_built (Changes PbtP)
    (outside PbtP QsymM refl)
    (outside PbtP QsymF refl)
    (outside PbtP NcsfS refl)
    (outside PbtP NcsfL refl)
    (outside PbtP NcsfR refl)
    (by_rule PbtP FqsymF 3 included.trees_in_fqsym_f)
    (by_rule PbtP FqsymG 3 included.trees_in_fqsym_g)
    (by_rule PbtP WqsymM 3 included.trees_in_wqsym)
    (outside PbtP FsymS refl)
    (itself PbtP)

-- all changes
pub all_changes_exist : ChangesExistLaw
all_changes_exist from to built built' =
    of_built (λ basis. (b : BasisId) → IsTrue (is_built b) → Changes basis b)
    from_monomial from_fundamental from_complete from_elementary from_ribbon from_permutation from_dual from_packed from_tableau from_tree from built to built'
