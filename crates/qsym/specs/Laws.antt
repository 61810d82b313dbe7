-- The rules of QSym have answers, whatever memory there is. Public functions with empty bodies ensure these laws (`src/laws.rt`).
use Rattle.std.specs.Prelude.{[], ◌∷◌}
use Rattle.basis_names.specs.declared.bases.BasisId.TheVariants.{QsymM, QsymF}
use Rattle.index_rules.specs.Changes.{change_facts, operation_facts}
use Rattle.index_rules.specs.Laws.{HasAnswers, HasProducts}
use Rattle.index_rules.specs.Spaces.{limit_for}
use Rattle.realisations.specs.Readings.{coproduct}

-- each element of degree n, within the limit, has a combination over the other basis, of norm at most 2^n
pub record QsymChangesExistLaw : Type 0 where
  pub fundamental_in_monomial : HasAnswers (change_facts QsymF QsymM (limit_for QsymF) 1)
  pub monomial_in_fundamental : HasAnswers (change_facts QsymM QsymF (limit_for QsymM) 1)

-- and a coproduct, of norm at most 2^n
pub record QsymCoproductsExistLaw : Type 0 where
  pub monomial : HasAnswers (operation_facts coproduct QsymM (QsymM ∷ QsymM ∷ []) (limit_for QsymM) 1)
  pub fundamental : HasAnswers (operation_facts coproduct QsymF (QsymF ∷ QsymF ∷ []) (limit_for QsymF) 1)

-- and each two elements whose degrees add to n, within the limit, have a product, of norm at most 2^(2n) over M, and at most 2^(4n) over F
pub record QsymProductsExistLaw : Type 0 where
  pub monomial : HasProducts QsymM 2
  pub fundamental : HasProducts QsymF 4
