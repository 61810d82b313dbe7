-- Inclusions have answers, whatever memory there is. A public function with an empty body ensures this law (`src/laws.rt`).
use Rattle.std.specs.Prelude.{min}
use Rattle.basis_names.specs.declared.bases.BasisId.{BasisId}
use Rattle.basis_names.specs.declared.bases.BasisId.TheVariants.{FqsymF, FqsymG, FsymS, NcsfR, PbtP, WqsymM}
use Rattle.index_rules.specs.Changes.{change_facts}
use Rattle.index_rules.specs.Laws.{HasAnswers}
use Rattle.index_rules.specs.Spaces.{limit_for}

-- each element of degree n of a basis, within both limits, has a combination over a finer one, of norm at most 2^(3n)
abbrev pub HasInclusions : BasisId → BasisId → Type 0
HasInclusions coarse fine = HasAnswers (change_facts coarse fine (min (limit_for coarse) (limit_for fine)) 3)

-- ribbons over FQSym, PBT, FSym and WQSym, trees and tableaux over FQSym and WQSym, and FQSym over WQSym
pub record InclusionsExistLaw : Type 0 where
  pub ribbons_in_fqsym_g : HasInclusions NcsfR FqsymG
  pub ribbons_in_fqsym_f : HasInclusions NcsfR FqsymF
  pub ribbons_in_pbt : HasInclusions NcsfR PbtP
  pub ribbons_in_fsym : HasInclusions NcsfR FsymS
  pub ribbons_in_wqsym : HasInclusions NcsfR WqsymM
  pub trees_in_fqsym_g : HasInclusions PbtP FqsymG
  pub trees_in_fqsym_f : HasInclusions PbtP FqsymF
  pub trees_in_wqsym : HasInclusions PbtP WqsymM
  pub tableaux_in_fqsym_g : HasInclusions FsymS FqsymG
  pub tableaux_in_fqsym_f : HasInclusions FsymS FqsymF
  pub tableaux_in_wqsym : HasInclusions FsymS WqsymM
  pub fqsym_g_in_wqsym : HasInclusions FqsymG WqsymM
  pub fqsym_f_in_wqsym : HasInclusions FqsymF WqsymM
