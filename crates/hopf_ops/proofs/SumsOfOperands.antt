-- The row of a sum or a difference, once the common checks pass: both operands are converted, and then comes their sum.
use Rattle.std.proofs.Common.{◌≡◌, ℕ, ◌*◌, ◌/◌, Bool, List, Ok, Err, inl, inr, sym, ◌∙◌, subst}
use Rattle.std.specs.Prelude.{IfOk}
use Rattle.std.proofs.lemmas.Result.{IfOk-weaker}
use Rattle.hopf_num.specs.Divisors.{IsLcm}
use Rattle.hopf_num.proofs.CommonDivisors.{gcd-exists, IsLcm-quotient}
use Rattle.basis_names.specs.declared.bases.BasisId.{BasisId}
use Rattle.hopf_laws.specs.Values.{Expansion, IsValue, Expands, reading_of}
use Rattle.basis_routes.specs.declared.refusal.Refusal.{Refusal}
use Rattle.basis_routes.specs.Checks.{Tests}
use Rattle.basis_routes.specs.Conversions.{Converts}
use Rattle.basis_routes.specs.Rows.{Answer, Row, Checked, Then, Answers, OrMemory}
use Rattle.hopf_ops.specs.Answers.{AreTargets}
use Rattle.hopf_ops.specs.Operations.{sum_room, SumOver}
use Rattle.hopf_ops.specs.ReadingOperations.{sum_or_difference}
use Rattle.basis_routes.proofs.ContainedBases.{lies_kinds}
use Rattle.basis_routes.proofs.ConvertedRows.{converts_expands}
use Rattle.hopf_ops.proofs.ConvertedOperands.{sum_of_converted}
use Rattle.hopf_ops.proofs.RowsInSteps.{step_passes, step_refuses, tests_row}

-- denominators have a least common multiple
pub lcm_of : (x y : Expansion) → IsValue x → IsValue y → (m : ℕ) × IsLcm x.combination.den y.combination.den m
lcm_of x y hx hy =
    let g = gcd-exists x.combination.den y.combination.den in (
      x.combination.den / g.0 * y.combination.den,
      IsLcm-quotient x.combination.den y.combination.den g.0 hx.canonical.lowest.positive hy.canonical.lowest.positive g.1,
    )

module _ (minus : Bool) (targets : List BasisId) (a b : Expansion) where
  -- the sum rule of what the operands came to, and the answer
  abbrev Last : Expansion → Expansion → Row
  Last x y answer = (m : ℕ) × IsLcm x.combination.den y.combination.den m × Checked (sum_room m x y) (Answers targets (sum_or_difference minus (reading_of a) (reading_of b))) answer

  with_lcm : (x y : Expansion) (answer : Answer) (m : ℕ) → IsLcm x.combination.den y.combination.den m
      → OrMemory (Checked (sum_room m x y) (Answers targets (sum_or_difference minus (reading_of a) (reading_of b)))) answer → OrMemory (Last x y) answer
  with_lcm x y answer m least (inl memory) = inl memory
  with_lcm x y answer m least (inr row) = inr (m, least, row)

  rest_of_sum : (x y : Expansion) (answer : Answer) → Expands targets (reading_of a) x → Expands targets (reading_of b) y
      → ((m : ℕ) → IsLcm x.combination.den y.combination.den m → Tests (sum_room m x y) answer) → IfOk answer (Expands x.bases (sum_or_difference minus (reading_of x) (reading_of y)))
      → OrMemory (Last x y) answer
  rest_of_sum x y answer hx hy tests value =
      let m = lcm_of x y hx.value hy.value in
      with_lcm x y answer m.0 m.1
      (tests_row (sum_room m.0 x y) targets (sum_or_difference minus (reading_of a) (reading_of b)) answer (tests m.0 m.1)
      (IfOk-weaker answer (Expands x.bases (sum_or_difference minus (reading_of x) (reading_of y))) (Expands targets (sum_or_difference minus (reading_of a) (reading_of b)))
      (λ v h. sum_of_converted minus targets a b x y v hx hy (subst (λ (bases : List BasisId). Expands bases (sum_or_difference minus (reading_of x) (reading_of y)) v) hx.over h)) value))

  -- both operands are converted, and then comes their sum
  pub sum_passes : (x y : Expansion) (degree : ℕ) (answer : Answer) → AreTargets targets degree a b → Converts targets a (Ok x) → Converts targets b (Ok y)
      → ((m : ℕ) → IsLcm x.combination.den y.combination.den m → Tests (sum_room m x y) answer) → IfOk answer (Expands x.bases (sum_or_difference minus (reading_of x) (reading_of y)))
      → OrMemory (SumOver minus targets a b) answer
  sum_passes x y degree answer are hx hy tests value =
      step_passes (Converts targets a) (λ (v : Expansion). Then (Converts targets b) (Last v)) x answer hx
      (step_passes (Converts targets b) (Last x) y answer hy
      (rest_of_sum x y answer (converts_expands targets a x are.left_value (lies_kinds a.bases targets are.left) hx) (converts_expands targets b y are.right_value (lies_kinds b.bases targets are.right) hy) tests value))

  -- the first operand is refused
  pub sum_first : (r : Refusal) → OrMemory (Converts targets a) (Err r) → OrMemory (SumOver minus targets a b) (Err r)
  sum_first r hx = step_refuses (Converts targets a) (λ (v : Expansion). Then (Converts targets b) (Last v)) r hx

  -- or the second one
  pub sum_second : (x : Expansion) (r : Refusal) → Converts targets a (Ok x) → OrMemory (Converts targets b) (Err r) → OrMemory (SumOver minus targets a b) (Err r)
  sum_second x r hx hy =
      step_passes (Converts targets a) (λ (v : Expansion). Then (Converts targets b) (Last v)) x (Err r) hx (step_refuses (Converts targets b) (Last x) r hy)

-- what both came to is over the same bases
pub same_targets : (targets : List BasisId) (degree : ℕ) (a b x y : Expansion) → AreTargets targets degree a b → Converts targets a (Ok x) → Converts targets b (Ok y) → x.bases ≡ y.bases
same_targets targets degree a b x y are hx hy =
    (converts_expands targets a x are.left_value (lies_kinds a.bases targets are.left) hx).over ∙ sym (converts_expands targets b y are.right_value (lies_kinds b.bases targets are.right) hy).over
