-- Values over one list of bases agree exactly where they are the same, and so do the operands that came to them.
use Rattle.std.proofs.Common.{◌≡◌, ◌⊎◌, ℕ, Bool, List, Result, Ok, Err, IsTrue, inl, inr, refl, sym, ap, subst}
use Rattle.std.specs.Prelude.{◌↔◌, All}
use Rattle.basis_names.specs.declared.bases.BasisId.{BasisId}
use Rattle.realisations.proofs.Agreement.{agree_trans}
use Rattle.hopf_laws.specs.Values.{Expansion, IsValue, Expands, reading_of}
use Rattle.hopf_laws.proofs.Uniqueness.{expands_once}
use Rattle.basis_routes.specs.declared.refusal.Refusal.{Refusal}
use Rattle.basis_routes.specs.declared.refusal.Refusal.TheVariants.{Memory}
use Rattle.basis_routes.specs.declared.checks.Check.{Check}
use Rattle.basis_routes.specs.Checks.{Passes}
use Rattle.basis_routes.specs.Conversions.{Converts}
use Rattle.basis_routes.specs.Rows.{Answer, Row, Checked, OrMemory}
use Rattle.basis_routes.proofs.ContainedBases.{lies_kinds}
use Rattle.basis_routes.proofs.ConvertedRows.{converts_expands}
use Rattle.hopf_ops.specs.Answers.{AreTargets}
use Rattle.hopf_ops.specs.Operations.{AgreeOver, BothBrought, EqualAfter}
use Rattle.hopf_ops.proofs.ConvertedOperands.{den-positive, expands_agreeing}
use Rattle.hopf_ops.proofs.RowsInSteps.{step_passes}

module _ (targets : List BasisId) (a b x y : Expansion) (ha : IsValue a) (hb : IsValue b) (hx : Expands targets (reading_of a) x) (hy : Expands targets (reading_of b) y) where
  -- operands that came to the same value agree
  same_agree : x ≡ y → AgreeOver targets a b
  same_agree same ps points =
      agree_trans (reading_of a) (reading_of x) (reading_of b) ps (den-positive x hx.value) (sym (hx.reads ps points))
      ((subst (λ (v : Expansion). Expands targets (reading_of b) v) (sym same) hy).reads ps points)

  -- operands that agree came to the same value
  agree_same : AgreeOver targets a b → x ≡ y
  agree_same agree =
      expands_once targets (reading_of b) x y (den-positive b hb)
      (expands_agreeing targets (reading_of a) (reading_of b) x (den-positive a ha) agree hx) hy

  -- so a test of the one is a test of the other
  pub compared : (same : Bool) → (IsTrue same ↔ x ≡ y) → IsTrue same ↔ AgreeOver targets a b
  compared same test = (λ yes. same_agree (test.0 yes), λ agree. test.1 (agree_same agree))

-- both operands are converted, and what they came to is compared
pub compared_agree : (targets : List BasisId) (degree : ℕ) (a b : Expansion) → AreTargets targets degree a b
    → (x y : Expansion) (same : Bool) → Converts targets a (Ok x) → Converts targets b (Ok y) → (IsTrue same ↔ x ≡ y) → IsTrue same ↔ AgreeOver targets a b
compared_agree targets degree a b are x y same hx hy test =
    compared targets a b x y are.left_value are.right_value (converts_expands targets a x are.left_value (lies_kinds a.bases targets are.left) hx)
    (converts_expands targets b y are.right_value (lies_kinds b.bases targets are.right) hy) same test

-- the second operand is refused
pub second_refused : (targets : List BasisId) (a b x : Expansion) (r : Refusal) → Converts targets a (Ok x) → OrMemory (Converts targets b) (Err r) → OrMemory (BothBrought targets a b) (Err r)
second_refused targets a b x r hx hr = step_passes (Converts targets a) (λ (v : Expansion). Converts targets b) x (Err r) hx hr

-- an answer of an equality after a row, or want of memory
abbrev pub IsEqualOrMemory : Row → List BasisId → Expansion → Expansion → Result Bool Refusal → Type 0
IsEqualOrMemory Brings targets a b answer = (answer ≡ Err Memory) ⊎ EqualAfter Brings targets a b answer

refused_told : (r : Refusal) (answer : Answer) → answer ≡ Err r → answer ≡ Err Memory → r ≡ Memory
refused_told r answer is memory = cc

-- a refusal of the row, or want of memory
pub refused_after : (Brings : Row) (targets : List BasisId) (a b : Expansion) (r : Refusal) → OrMemory Brings (Err r) → IsEqualOrMemory Brings targets a b (Err r)
refused_after Brings targets a b r (inl memory) =
    let err : Refusal → Result Bool Refusal = λ q. Err q in
    inl (ap err (refused_told r (Err r) refl memory))
refused_after Brings targets a b r (inr refused) = inr refused

-- after checks that pass the row is that of the rest
pub after_checks : (checks : List Check) (Brings : Row) (targets : List BasisId) (a b : Expansion) (answer : Result Bool Refusal) → All Passes checks
    → IsEqualOrMemory Brings targets a b answer → IsEqualOrMemory (Checked checks Brings) targets a b answer
after_checks checks Brings targets a b answer pass (inl memory) = inl memory
after_checks checks Brings targets a b (Ok same) pass (inr h) = inr ((h.0.0, inl (pass, h.0.1)), h.1)
after_checks checks Brings targets a b (Err r) pass (inr h) = inr (inl (pass, h))
