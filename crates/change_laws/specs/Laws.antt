-- Laws of changes of basis, and that coproducts exist. Public functions with empty bodies ensure them (`src/laws.rt`).
use Rattle.std.specs.Prelude.{◌-◌, ◌^◌, ◌<◌, ◌≤◌, List, [], ◌∷◌, length}
use Rattle.std.specs.List.{sum}
use Rattle.basis_names.specs.declared.bases.BasisId.{BasisId}
use Rattle.basis_names.specs.declared.bases.BasisId.TheVariants.{QsymM, QsymF, NcsfS, NcsfL, NcsfR}
use Rattle.coproduct_laws.specs.Coproducts.{IsCoproductRule}
use Rattle.realisations.specs.Answers.{IsAnswer}
use Rattle.realisations.specs.Codes.{Code}
use Rattle.realisations.specs.Combinations.{Combination, norm_of}
use Rattle.realisations.specs.Descents.{complement}
use Rattle.realisations.specs.IndexKinds.{IsComposition}
use Rattle.realisations.specs.Indices.{degree_of}
use Rattle.realisations.specs.Readings.{applied, coproduct, element}
use Rattle.change_laws.specs.Changes.{ListsRefinements, ListsCoarsenings, IsSignedSum, HasChanges}

-- a composition of n has at most 2^n finer ones, and at most 2^n coarser ones
pub record FewLaw : Type 0 where
  pub refinements : (parts : Code) (codes : List Code) → IsComposition parts → ListsRefinements parts codes → length codes ≤ 2 ^ sum parts
  pub coarsenings : (parts : Code) (codes : List Code) → IsComposition parts → ListsCoarsenings parts codes → length codes ≤ 2 ^ sum parts

-- F of I is the sum of M of J over J finer than I or equal to it, and M of I that of F of J with a sign for each part of J past those of I (Gessel 1984)
pub record QsymChangesLaw : Type 0 where
  pub fundamental_in_monomial : IsSignedSum QsymF QsymM ListsRefinements (λ parts code. 0)
  pub monomial_in_fundamental : IsSignedSum QsymM QsymF ListsRefinements (λ parts code. length code - length parts)

-- and there are such combinations
pub record QsymExistenceLaw : Type 0 where
  pub fundamental_in_monomial : HasChanges QsymF QsymM
  pub monomial_in_fundamental : HasChanges QsymM QsymF

-- S of I is the sum of R of J over J coarser than I or equal to it, and R of I that of S of J with a sign for each part of I past those of J.
-- With I^c, the composition whose descents are the places outside those of I, L of I is the sum of R of J over J finer than I^c or equal to it,
-- and R of I that of L of J over J coarser than I^c or equal to it, with a sign for each part of I^c past those of J (Gelfand, Krob, Lascoux, Leclerc, Retakh, Thibon 1995)
pub record NcsfChangesLaw : Type 0 where
  pub complete_in_ribbon : IsSignedSum NcsfS NcsfR ListsCoarsenings (λ parts code. 0)
  pub ribbon_in_complete : IsSignedSum NcsfR NcsfS ListsCoarsenings (λ parts code. length parts - length code)
  pub elementary_in_ribbon : IsSignedSum NcsfL NcsfR (λ parts codes. ListsRefinements (complement parts) codes) (λ parts code. 0)
  pub ribbon_in_elementary : IsSignedSum NcsfR NcsfL (λ parts codes. ListsCoarsenings (complement parts) codes) (λ parts code. length (complement parts) - length code)

-- and there are such combinations
pub record NcsfExistenceLaw : Type 0 where
  pub complete_in_ribbon : HasChanges NcsfS NcsfR
  pub ribbon_in_complete : HasChanges NcsfR NcsfS
  pub elementary_in_ribbon : HasChanges NcsfL NcsfR
  pub ribbon_in_elementary : HasChanges NcsfR NcsfL

-- each coproduct rule with fewer than 2^127 pairs has a combination that is its answer, of a norm of at most their number
abbrev pub CoproductExistenceLaw : Type 0
CoproductExistenceLaw = (basis : BasisId) (code : Code) (pairs : List (Code × Code)) → IsCoproductRule basis code pairs → length pairs < 2 ^ 127 →
    (c : Combination) × IsAnswer (basis ∷ basis ∷ []) (degree_of basis code) (applied coproduct 0 (element basis code)) c × (norm_of c.terms ≤ length pairs)
