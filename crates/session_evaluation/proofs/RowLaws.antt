-- The laws of rows in one record, and each operation on one value by its law.
use Rattle.std.proofs.Common.{◌≡◌, IsTrue}
use Rattle.basis_names.specs.declared.bases.BasisId.{BasisId}
use Rattle.built_bases.specs.Table.{is_built as is_built_basis}
use Rattle.built_forms.specs.Forms.{is_built_map}
use Rattle.session_tokens.specs.declared.lexeme.Linear.{Linear}
use Rattle.session_tokens.specs.declared.lexeme.Linear.TheVariants.{Coproduct, Antipode, Counit, Mult, Commute}
use Rattle.hopf_laws.specs.Values.{Expansion, IsValue}
use Rattle.basis_routes.specs.declared.place.Place.{Place}
use Rattle.basis_routes.specs.Conversions.{ConversionRow}
use Rattle.basis_routes.specs.Laws.{ConversionLaw}
use Rattle.basis_routes.specs.Rows.{Row, Answer}
use Rattle.hopf_ops.specs.Laws.{OperatorLaw, NegationLaw, CoproductLaw, AntipodeLaw, CounitLaw, MultLaw, CommuteLaw, EqualLaw}
use Rattle.hopf_ops.specs.Operations.{NegationRow}
use Rattle.session_evaluation.specs.Functions.{LinearRow}
use Rattle.basis_routes.proofs.ConversionRows.{conversions_decide}
use Rattle.hopf_ops.proofs.AntipodeRows.{antipodes_decide}
use Rattle.hopf_ops.proofs.CommuteRows.{commutes_decide}
use Rattle.hopf_ops.proofs.CoproductRows.{coproducts_decide}
use Rattle.hopf_ops.proofs.CounitRows.{counits_decide}
use Rattle.hopf_ops.proofs.EqualRows.{equals_decide}
use Rattle.hopf_ops.proofs.MultRows.{mults_decide}
use Rattle.hopf_ops.proofs.NegationRows.{negations_decide}
use Rattle.hopf_ops.proofs.OperatorRows.{operators_decide}

-- what `row_law` and `conversion_law` ensure
pub record RowLaws : Type 0 where
  pub operator : OperatorLaw
  pub negation : NegationLaw
  pub coproduct : CoproductLaw
  pub antipode : AntipodeLaw
  pub counit : CounitLaw
  pub mult : MultLaw
  pub commute : CommuteLaw
  pub equal : EqualLaw
  pub conversion : ConversionLaw

pub row_laws : RowLaws
row_laws = record {
  operator = operators_decide;
  negation = negations_decide;
  coproduct = coproducts_decide;
  antipode = antipodes_decide;
  counit = counits_decide;
  mult = mults_decide;
  commute = commutes_decide;
  equal = equals_decide;
  conversion = conversions_decide;
}

-- an operation on one value has exactly one answer on each
pub record ActsOnce (RowOn : Expansion → Row) : Type 0 where
  pub once : (a : Expansion) → IsValue a → (r s : Answer) → RowOn a r → RowOn a s → r ≡ s
  pub some : (a : Expansion) → IsValue a → (r : Answer) × RowOn a r

pub negation_acts : RowLaws → ActsOnce NegationRow
negation_acts laws = record { once = λ a value. (laws.negation a value).once; some = λ a value. (laws.negation a value).some }

pub conversion_acts : RowLaws → (at : Place) (to : BasisId) → IsTrue (is_built_basis to) → ActsOnce (ConversionRow at to)
conversion_acts laws at to built = record { once = λ a value. (laws.conversion at to a value built).once; some = λ a value. (laws.conversion at to a value built).some }

pub function_acts : RowLaws → (map : Linear) (at : Place) → IsTrue (is_built_map map) → ActsOnce (LinearRow map at)
function_acts laws Coproduct at built = record { once = λ a value. (laws.coproduct at a value).once; some = λ a value. (laws.coproduct at a value).some }
function_acts laws Antipode at built = record { once = λ a value. (laws.antipode at a value).once; some = λ a value. (laws.antipode at a value).some }
function_acts laws Counit at built = record { once = λ a value. (laws.counit at a value).once; some = λ a value. (laws.counit at a value).some }
function_acts laws Mult at built = record { once = λ a value. (laws.mult at a value).once; some = λ a value. (laws.mult at a value).some }
function_acts laws Commute at built = record { once = λ a value. (laws.commute at a value).once; some = λ a value. (laws.commute at a value).some }
