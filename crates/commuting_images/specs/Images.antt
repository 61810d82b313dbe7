-- Commuting images of elements, as rules: what an element becomes once letters commute, over the monomial basis of QSym (Gelfand, Krob, Lascoux, Leclerc, Retakh, Thibon 1995).
use Rattle.std.specs.Prelude.{ℕ, ◌≤◌, [], ◌∷◌}
use Rattle.basis_names.specs.declared.bases.BasisId.{BasisId}
use Rattle.basis_names.specs.declared.bases.BasisId.TheVariants.{QsymM, QsymF, NcsfS, NcsfL, NcsfR, FqsymF, FqsymG, WqsymM, FsymS, PbtP}
use Rattle.index_rules.specs.Changes.{operation_facts}
use Rattle.index_rules.specs.Laws.{HasAnswers}
use Rattle.index_rules.specs.Rules.{RuleFacts}
use Rattle.index_rules.specs.Spaces.{limit_for}
use Rattle.realisations.specs.Readings.{commute}

-- the commuting images of the elements of a basis, up to its limit
abbrev pub image_facts : BasisId → ℕ → RuleFacts
image_facts basis growth = operation_facts commute basis (QsymM ∷ []) (limit_for basis) growth

-- each element of the basis, within its limit, has a commuting image, whose norm has at most five bits for each degree
pub record HasImages (basis : BasisId) : Type 0 where
  pub growth : ℕ
  pub most : growth ≤ 5
  pub images : HasAnswers (image_facts basis growth)

-- over each of the ten bases
pub record ImagesExistLaw : Type 0 where
  pub qsym_m : HasImages QsymM
  pub qsym_f : HasImages QsymF
  pub ncsf_s : HasImages NcsfS
  pub ncsf_l : HasImages NcsfL
  pub ncsf_r : HasImages NcsfR
  pub fqsym_f : HasImages FqsymF
  pub fqsym_g : HasImages FqsymG
  pub wqsym_m : HasImages WqsymM
  pub fsym_s : HasImages FsymS
  pub pbt_p : HasImages PbtP
