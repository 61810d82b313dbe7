-- The rules of WQSym have answers, whatever memory there is. Public functions with empty bodies ensure these laws (`src/laws.rt`).
use Rattle.std.specs.Prelude.{[], ◌∷◌}
use Rattle.basis_names.specs.declared.bases.BasisId.TheVariants.{WqsymM}
use Rattle.index_rules.specs.Changes.{operation_facts}
use Rattle.index_rules.specs.Laws.{HasAnswers, HasProducts}
use Rattle.index_rules.specs.Spaces.{limit_for}
use Rattle.realisations.specs.Readings.{coproduct}

-- each element of degree n has a coproduct, of norm at most 2^n
abbrev pub WqsymCoproductsExistLaw : Type 0
WqsymCoproductsExistLaw = HasAnswers (operation_facts coproduct WqsymM (WqsymM ∷ WqsymM ∷ []) (limit_for WqsymM) 1)

-- and each two elements whose degrees add to n, within the limit, have a product, of norm at most 2^(2n)
abbrev pub WqsymProductsExistLaw : Type 0
WqsymProductsExistLaw = HasProducts WqsymM 2
