-- The rules of NCSF have answers, whatever memory there is. Public functions with empty bodies ensure these laws (`src/laws.rt`).
use Rattle.std.specs.Prelude.{[], ◌∷◌}
use Rattle.basis_names.specs.declared.bases.BasisId.TheVariants.{NcsfS, NcsfL, NcsfR}
use Rattle.index_rules.specs.Changes.{change_facts, operation_facts}
use Rattle.index_rules.specs.Laws.{HasAnswers, HasProducts}
use Rattle.index_rules.specs.Spaces.{limit_for}
use Rattle.realisations.specs.Readings.{coproduct}

-- each element of degree n, within the limit, has a combination over the ribbons, and a ribbon over both other bases, of norm at most 2^n
pub record NcsfChangesExistLaw : Type 0 where
  pub complete_in_ribbon : HasAnswers (change_facts NcsfS NcsfR (limit_for NcsfS) 1)
  pub ribbon_in_complete : HasAnswers (change_facts NcsfR NcsfS (limit_for NcsfR) 1)
  pub elementary_in_ribbon : HasAnswers (change_facts NcsfL NcsfR (limit_for NcsfL) 1)
  pub ribbon_in_elementary : HasAnswers (change_facts NcsfR NcsfL (limit_for NcsfR) 1)

-- and a coproduct, of norm at most 2^n over S and L, and at most 2^(2n) over R
pub record NcsfCoproductsExistLaw : Type 0 where
  pub complete : HasAnswers (operation_facts coproduct NcsfS (NcsfS ∷ NcsfS ∷ []) (limit_for NcsfS) 1)
  pub elementary : HasAnswers (operation_facts coproduct NcsfL (NcsfL ∷ NcsfL ∷ []) (limit_for NcsfL) 1)
  pub ribbon : HasAnswers (operation_facts coproduct NcsfR (NcsfR ∷ NcsfR ∷ []) (limit_for NcsfR) 2)

-- and each two elements whose degrees add to n, within the limit, have a product, of norm at most 1 over S and L, and at most 2^n over R
pub record NcsfProductsExistLaw : Type 0 where
  pub complete : HasProducts NcsfS 0
  pub elementary : HasProducts NcsfL 0
  pub ribbon : HasProducts NcsfR 1
