-- Inclusions have answers.
use Rattle.std.proofs.Common.{arith}
use Rattle.basis_names.specs.declared.bases.BasisId.TheVariants.{FqsymF, FqsymG, FsymS, NcsfR, PbtP, WqsymM}
use Rattle.inclusion_laws.proofs.InclusionsOfClasses.{ribbons_included, standardisations, tableaux_included, trees_included}
use Rattle.inclusion_rules.specs.Laws.{InclusionsExistLaw}
use Rattle.inclusion_rules.proofs.SumsOver.{inclusions_exist}

-- all of them
pub all_inclusions_exist : InclusionsExistLaw
all_inclusions_exist = record {
  ribbons_in_fqsym_g = inclusions_exist FqsymG NcsfR _ ribbons_included.in_fqsym_g (omega arith);
  ribbons_in_fqsym_f = inclusions_exist FqsymF NcsfR _ ribbons_included.in_fqsym_f (omega arith);
  ribbons_in_pbt = inclusions_exist PbtP NcsfR _ ribbons_included.in_pbt (omega arith);
  ribbons_in_fsym = inclusions_exist FsymS NcsfR _ ribbons_included.in_fsym (omega arith);
  ribbons_in_wqsym = inclusions_exist WqsymM NcsfR _ ribbons_included.in_wqsym (omega arith);
  trees_in_fqsym_g = inclusions_exist FqsymG PbtP _ trees_included.in_fqsym_g (omega arith);
  trees_in_fqsym_f = inclusions_exist FqsymF PbtP _ trees_included.in_fqsym_f (omega arith);
  trees_in_wqsym = inclusions_exist WqsymM PbtP _ trees_included.in_wqsym (omega arith);
  tableaux_in_fqsym_g = inclusions_exist FqsymG FsymS _ tableaux_included.in_fqsym_g (omega arith);
  tableaux_in_fqsym_f = inclusions_exist FqsymF FsymS _ tableaux_included.in_fqsym_f (omega arith);
  tableaux_in_wqsym = inclusions_exist WqsymM FsymS _ tableaux_included.in_wqsym (omega arith);
  fqsym_g_in_wqsym = inclusions_exist WqsymM FqsymG _ standardisations.g_in_wqsym (omega arith);
  fqsym_f_in_wqsym = inclusions_exist WqsymM FqsymF _ standardisations.f_in_wqsym (omega arith);
}
