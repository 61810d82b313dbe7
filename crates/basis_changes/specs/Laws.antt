-- The changes have answers, whatever memory there is. A public function with an empty body ensures it (`src/laws.rt`).
use Rattle.std.specs.Prelude.{◌≢◌, ℕ, IsTrue, min}
use Rattle.basis_names.specs.Bases.{algebra_of}
use Rattle.basis_names.specs.declared.bases.BasisId.{BasisId}
use Rattle.built_bases.specs.Table.{is_built}
use Rattle.index_rules.specs.Changes.{change_facts}
use Rattle.index_rules.specs.Laws.{HasAnswers}
use Rattle.index_rules.specs.Spaces.{limit_for}
use Rattle.realisations.specs.Bases.{lies_in}

-- each element of a built basis, within the limits of both, has a combination over each other built basis whose algebra contains that of the first
abbrev pub ChangesExistLaw : Type 0
ChangesExistLaw = (from to : BasisId) → IsTrue (is_built from) → IsTrue (is_built to) → IsTrue (lies_in (algebra_of from) (algebra_of to)) → from ≢ to →
    (growth : ℕ) × HasAnswers (change_facts from to (min (limit_for from) (limit_for to)) growth)
