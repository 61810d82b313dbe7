-- The rules of PBT have answers, whatever memory there is. Public functions with empty bodies ensure these laws (`src/laws.rt`).
use Rattle.std.specs.Prelude.{[], ◌∷◌}
use Rattle.basis_names.specs.declared.bases.BasisId.TheVariants.{PbtP}
use Rattle.index_rules.specs.Changes.{operation_facts}
use Rattle.index_rules.specs.Laws.{HasAnswers, HasProducts}
use Rattle.index_rules.specs.Spaces.{limit_for}
use Rattle.realisations.specs.Readings.{coproduct}

-- each element of degree n, within the limit, has a coproduct, of norm at most 2^n
abbrev pub PbtCoproductsExistLaw : Type 0
PbtCoproductsExistLaw = HasAnswers (operation_facts coproduct PbtP (PbtP ∷ PbtP ∷ []) (limit_for PbtP) 1)

-- and each two elements whose degrees add to n, within the limit, have a product, of norm at most 2^n
abbrev pub PbtProductsExistLaw : Type 0
PbtProductsExistLaw = HasProducts PbtP 1
