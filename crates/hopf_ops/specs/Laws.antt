-- The laws of rows: each operation has exactly one answer, and a value that it answers is what the operation is on readings, whatever was converted on the way.
use Rattle.std.specs.Prelude.{◌≡◌, Bool, [], ◌∷◌, Result}
use Rattle.basis_names.specs.declared.bases.BasisId.TheVariants.{QsymM}
use Rattle.realisations.specs.Readings.{applied, antipode, commute, coproduct, counit, mult}
use Rattle.hopf_laws.specs.Values.{Expansion, IsValue, reading_of}
use Rattle.basis_routes.specs.declared.place.Place.{Place}
use Rattle.basis_routes.specs.declared.refusal.Refusal.{Refusal}
use Rattle.basis_routes.specs.Lists.{doubled, replaced, without}
use Rattle.basis_routes.specs.Places.{position_of}
use Rattle.basis_routes.specs.Rows.{Decides}
use Rattle.hopf_ops.specs.declared.operator.Operator.{Operator}
use Rattle.hopf_ops.specs.Operations.{RowOf, result_bases, NegationRow, EqualRow, CoproductRow, CounitRow, AntipodeRow, CommuteRow, MultRow, mult_bases}
use Rattle.hopf_ops.specs.ReadingOperations.{combined, negative}

-- the operation of an operator
abbrev pub OperatorLaw : Type 0
OperatorLaw = (o : Operator) (a b : Expansion) → IsValue a → IsValue b → Decides (RowOf o a b) (result_bases o a b) (combined o (reading_of a) (reading_of b))

abbrev pub NegationLaw : Type 0
NegationLaw = (a : Expansion) → IsValue a → Decides (NegationRow a) a.bases (negative (reading_of a))

abbrev pub CoproductLaw : Type 0
CoproductLaw = (at : Place) (a : Expansion) → IsValue a → Decides (CoproductRow at a) (doubled (position_of at) a.bases) (applied coproduct (position_of at) (reading_of a))

abbrev pub CounitLaw : Type 0
CounitLaw = (at : Place) (a : Expansion) → IsValue a → Decides (CounitRow at a) (without (position_of at) a.bases) (applied counit (position_of at) (reading_of a))

abbrev pub AntipodeLaw : Type 0
AntipodeLaw = (at : Place) (a : Expansion) → IsValue a → Decides (AntipodeRow at a) a.bases (applied antipode (position_of at) (reading_of a))

abbrev pub CommuteLaw : Type 0
CommuteLaw = (at : Place) (a : Expansion) → IsValue a → Decides (CommuteRow at a) (replaced (position_of at) (QsymM ∷ []) a.bases) (applied commute (position_of at) (reading_of a))

abbrev pub MultLaw : Type 0
MultLaw = (at : Place) (a : Expansion) → IsValue a → Decides (MultRow at a) (mult_bases (position_of at) a.bases) (applied mult (position_of at) (reading_of a))

-- an equality answers true exactly where its row says so, and has no other answer
abbrev pub EqualLaw : Type 0
EqualLaw = (a b : Expansion) → IsValue a → IsValue b → (answer : Result Bool Refusal) × EqualRow a b answer × ((other : Result Bool Refusal) → EqualRow a b other → other ≡ answer)
