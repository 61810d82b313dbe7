-- The row of a sum or a difference allows exactly one answer, whose value reads as the sum or the difference of the operands.
use Rattle.std.proofs.Common.{◌≡◌, ℕ, Bool, true, false, List, map, Ok, refl, sym, ◌∙◌, subst, arith}
use Rattle.std.specs.Prelude.{All, max}
use Rattle.hopf_num.specs.Divisors.{IsLcm}
use Rattle.hopf_num.proofs.RoomOfSums.{same_lcm}
use Rattle.basis_names.specs.declared.bases.BasisId.{BasisId}
use Rattle.realisations.specs.Bases.{kind_of}
use Rattle.realisations.specs.Readings.{Reading, kinds_of}
use Rattle.hopf_laws.specs.Values.{Expansion, IsValue, Expands, reading_of, degree_of_value}
use Rattle.basis_routes.specs.Checks.{Passes}
use Rattle.basis_routes.specs.Conversions.{BothConvert}
use Rattle.basis_routes.specs.Joins.{joined}
use Rattle.basis_routes.specs.Rows.{Answer, Row, Checked, Answers, Decides}
use Rattle.basis_routes.proofs.ContainedBases.{lies_kinds}
use Rattle.basis_routes.proofs.ConversionsExist.{IsConverted, both_convert_some}
use Rattle.basis_routes.proofs.OnceRows.{IsOnce, checked_once, answers_once, both_convert_once}
use Rattle.basis_routes.proofs.SomeRows.{ComesTo, Any, checked_some, answers_some}
use Rattle.basis_routes.proofs.ValueRows.{checked_value, answers_value, both_convert_value}
use Rattle.hopf_ops.specs.Operations.{common_checks, sum_room, SumOver, SumRow}
use Rattle.hopf_ops.specs.ReadingOperations.{sum_or_difference}
use Rattle.hopf_ops.proofs.BuiltJoins.{targets_of}
use Rattle.hopf_ops.proofs.ConvertedOperands.{sum-positive, sum_of_converted}
use Rattle.hopf_ops.proofs.SumsExist.{sum_exists, common_checks_are, sum_room_are}
use Rattle.hopf_ops.proofs.SumsOfOperands.{lcm_of}

module _ (minus : Bool) (a b : Expansion) (ha : IsValue a) (hb : IsValue b) where
  abbrev targets : List BasisId
  targets = joined a.bases b.bases

  abbrev reading : Reading
  reading = sum_or_difference minus (reading_of a) (reading_of b)

  abbrev degree : ℕ
  degree = max (degree_of_value a) (degree_of_value b)

  -- the sum rule of what the operands came to, and the answer
  abbrev Last : Expansion → Expansion → Row
  Last x y answer = (m : ℕ) × IsLcm x.combination.den y.combination.den m × Checked (sum_room m x y) (Answers targets reading) answer

  last_once : (x y : Expansion) → IsOnce (Last x y)
  last_once x y r s (m, l, h) (n, k, h') =
      checked_once (sum_room m x y) (Answers targets reading) (answers_once targets reading (sum-positive minus a b ha hb)) r s h
      (subst (λ (p : ℕ). Checked (sum_room p x y) (Answers targets reading) s) (same_lcm x.combination.den y.combination.den n m k l) h')

  pub sum_row_once : IsOnce (SumRow minus a b)
  sum_row_once = checked_once (common_checks degree a b) (BothConvert targets a b Last) (both_convert_once targets a b Last ha hb (λ x y hx hy. last_once x y))

  -- the sum of what the operands came to
  sum_of_both : (m : ℕ) (x y : Expansion) → Expands targets (reading_of a) x → Expands targets (reading_of b) y → IsLcm x.combination.den y.combination.den m
      → All Passes (sum_room m x y) → (v : Expansion) × Expands targets reading v
  sum_of_both m x y hx hy least room =
      let sum = sum_exists m minus x y hx.value hy.value (hx.over ∙ sym hy.over) least room in (
        sum.0,
        sum_of_converted minus targets a b x y sum.0 hx hy (subst (λ (bases : List BasisId). Expands bases (sum_or_difference minus (reading_of x) (reading_of y)) sum.0) hx.over sum.1),
      )

  last_some : (x y : Expansion) → IsConverted targets a x → IsConverted targets b y → ComesTo (Last x y) Any
  last_some x y hx hy =
      let m = lcm_of x y hx.expands.value hy.expands.value in
      let row = checked_some (sum_room m.0 x y) (Answers targets reading) Any (sum_room_are m.0 x y hx.expands.value hy.expands.value)
      (λ room. let v = sum_of_both m.0 x y hx.expands hy.expands m.1 room in answers_some targets reading Any v.0 v.1 tt) in
      record { answer = row.answer; allowed = (m.0, m.1, row.allowed); holds = λ v is. tt }

  pub sum_row_some : (answer : Answer) × SumRow minus a b answer
  sum_row_some =
      let row = checked_some (common_checks degree a b) (BothConvert targets a b Last) Any (common_checks_are degree a b)
      (λ pass.
      let are = targets_of degree a b ha hb pass in
      both_convert_some targets a b Last Any ha hb are.left are.right are.built (omega (arith, are.within)) (omega (arith, are.within)) last_some) in
      (row.answer, row.allowed)

  pub sum_row_reads : (v : Expansion) → SumRow minus a b (Ok v) → Expands targets reading v
  sum_row_reads v h =
      let both = (checked_value (common_checks degree a b) (BothConvert targets a b Last) v h).1 in
      let last = both_convert_value targets a b Last v both in
      answers_value targets reading v (checked_value (sum_room last.4.0 last.0 last.1) (Answers targets reading) v last.4.2).1

-- the kinds of a sum or a difference are those of its first operand
kinds-sum : (minus : Bool) (a b : Expansion) → kinds_of (sum_or_difference minus (reading_of a) (reading_of b)) ≡ map kind_of a.bases
kinds-sum true a b = refl
kinds-sum false a b = refl

-- a sum or a difference
pub sums_decide : (minus : Bool) (a b : Expansion) → IsValue a → IsValue b → Decides (SumRow minus a b) (joined a.bases b.bases) (sum_or_difference minus (reading_of a) (reading_of b))
sums_decide minus a b ha hb = record {
  once = sum_row_once minus a b ha hb;
  some = sum_row_some minus a b ha hb;
  reads = sum_row_reads minus a b ha hb;
  kinds = λ v h.
      let degree = max (degree_of_value a) (degree_of_value b) in
      let pass = (checked_value (common_checks degree a b) (SumOver minus (joined a.bases b.bases) a b) v h).0 in
      lies_kinds a.bases (joined a.bases b.bases) (targets_of degree a b ha hb pass).left ∙ sym (kinds-sum minus a b);
}
