-- Laws of the rules on compositions.
use Rattle.std.specs.Prelude.{ℕ, ◌+◌, ◌≤◌, List, [], ◌∷◌}
use Rattle.std.specs.List.{sum}
use Rattle.realisations.specs.Answers.{IsAnswer}
use Rattle.realisations.specs.Combinations.{Combination}
use Rattle.realisations.specs.IndexKinds.{IsComposition}
use Rattle.realisations.specs.Readings.{element, product}
use Rattle.basis_names.specs.declared.bases.BasisId.TheVariants.{QsymM}

-- the product of two monomial functions has a combination that is the answer of a rule, whatever memory there is
abbrev pub ExistenceLaw : Type 0
ExistenceLaw = (left right : List ℕ) → IsComposition left → IsComposition right → sum left + sum right ≤ 12
    → (c : Combination) × IsAnswer (QsymM ∷ []) (sum left + sum right) (product (element QsymM left) (element QsymM right)) c
