-- The rules of FQSym have answers, whatever memory there is. Public functions with empty bodies ensure these laws (`src/laws.rt`).
use Rattle.std.specs.Prelude.{[], ◌∷◌}
use Rattle.basis_names.specs.declared.bases.BasisId.TheVariants.{FqsymF, FqsymG}
use Rattle.index_rules.specs.Changes.{change_facts, operation_facts}
use Rattle.index_rules.specs.Laws.{HasAnswers, HasProducts}
use Rattle.index_rules.specs.Spaces.{limit_for}
use Rattle.realisations.specs.Readings.{coproduct}

-- each element of either basis, within the limit, is an element of the other one: a combination of norm 1
pub record FqsymChangesExistLaw : Type 0 where
  pub fundamental_in_dual : HasAnswers (change_facts FqsymF FqsymG (limit_for FqsymF) 0)
  pub dual_in_fundamental : HasAnswers (change_facts FqsymG FqsymF (limit_for FqsymG) 0)

-- each element of degree n has a coproduct, of norm at most 2^n
pub record FqsymCoproductsExistLaw : Type 0 where
  pub fundamental : HasAnswers (operation_facts coproduct FqsymF (FqsymF ∷ FqsymF ∷ []) (limit_for FqsymF) 1)
  pub dual : HasAnswers (operation_facts coproduct FqsymG (FqsymG ∷ FqsymG ∷ []) (limit_for FqsymG) 1)

-- and each two elements whose degrees add to n, within the limit, have a product, of norm at most 2^n
pub record FqsymProductsExistLaw : Type 0 where
  pub fundamental : HasProducts FqsymF 1
  pub dual : HasProducts FqsymG 1
