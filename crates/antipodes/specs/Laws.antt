-- Antipodes exist, whatever memory there is. A public function with an empty body ensures this law (`src/laws.rt`).
use Rattle.std.specs.Prelude.{[], ◌∷◌}
use Rattle.basis_names.specs.declared.bases.BasisId.{BasisId}
use Rattle.basis_names.specs.declared.bases.BasisId.TheVariants.{QsymM, QsymF, NcsfS, NcsfL, NcsfR, FqsymF, FqsymG, WqsymM, FsymS, PbtP}
use Rattle.index_rules.specs.Changes.{operation_facts}
use Rattle.index_rules.specs.Laws.{HasAnswers}
use Rattle.index_rules.specs.Spaces.{limit_for}
use Rattle.realisations.specs.Readings.{antipode}

-- each element of degree n of a basis, within the limit, has an antipode over it, of norm at most 2^(5n)
abbrev pub HasAntipodes : BasisId → Type 0
HasAntipodes basis = HasAnswers (operation_facts antipode basis (basis ∷ []) (limit_for basis) 5)

-- those of the ten bases
pub record AntipodesExistLaw : Type 0 where
  pub qsym_monomial : HasAntipodes QsymM
  pub qsym_fundamental : HasAntipodes QsymF
  pub complete : HasAntipodes NcsfS
  pub elementary : HasAntipodes NcsfL
  pub ribbons : HasAntipodes NcsfR
  pub fqsym_fundamental : HasAntipodes FqsymF
  pub fqsym_dual : HasAntipodes FqsymG
  pub wqsym_monomial : HasAntipodes WqsymM
  pub tableaux : HasAntipodes FsymS
  pub trees : HasAntipodes PbtP
