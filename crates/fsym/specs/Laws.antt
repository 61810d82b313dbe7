-- The rules of FSym have answers, whatever memory there is. Public functions with empty bodies ensure these laws (`src/laws.rt`).
use Rattle.std.specs.Prelude.{[], ◌∷◌}
use Rattle.basis_names.specs.declared.bases.BasisId.TheVariants.{FsymS}
use Rattle.index_rules.specs.Changes.{operation_facts}
use Rattle.index_rules.specs.Laws.{HasAnswers, HasProducts}
use Rattle.index_rules.specs.Spaces.{limit_for}
use Rattle.realisations.specs.Readings.{coproduct}

-- each element of degree n, within the limit, has a coproduct, of norm at most 2^(4n)
abbrev pub FsymCoproductsExistLaw : Type 0
FsymCoproductsExistLaw = HasAnswers (operation_facts coproduct FsymS (FsymS ∷ FsymS ∷ []) (limit_for FsymS) 4)

-- and each two elements whose degrees add to n, within the limit, have a product, of norm at most 2^(3n)
abbrev pub FsymProductsExistLaw : Type 0
FsymProductsExistLaw = HasProducts FsymS 3
