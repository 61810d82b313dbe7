-- Rows step by step, as code goes through them: a step that is refused ends the row, and after one that is not the rest is the row.
use Rattle.std.proofs.Common.{◌≡◌, List, [], Ok, Err, inl, inr, refl, ap}
use Rattle.std.specs.Prelude.{All, IfOk}
use Rattle.realisations.specs.Readings.{Reading}
use Rattle.basis_names.specs.declared.bases.BasisId.{BasisId}
use Rattle.hopf_laws.specs.Values.{Expansion, Expands}
use Rattle.basis_routes.specs.declared.checks.Check.{Check}
use Rattle.basis_routes.specs.declared.refusal.Refusal.{Refusal}
use Rattle.basis_routes.specs.declared.refusal.Refusal.TheVariants.{Memory}
use Rattle.basis_routes.specs.Checks.{Passes, IsRefusalOf, Tests}
use Rattle.basis_routes.specs.Rows.{Answer, Row, Checked, Then, Answers, OrMemory}

-- a value is no want of memory
pub value_told : (Allowed : Row) (v : Expansion) → OrMemory Allowed (Ok v) → Allowed (Ok v)
value_told Allowed v (inl is) = absurd (let both : Ok v ≡ Err Memory = is in cc)
value_told Allowed v (inr row) = row

-- a refusal by the checks of a row
pub checks_refuse : (checks : List Check) (Rest : Row) (r : Refusal) → IsRefusalOf checks r → OrMemory (Checked checks Rest) (Err r)
checks_refuse checks Rest r (inl memory) = let err : Refusal → Answer = λ x. Err x in inl (ap err memory)
checks_refuse checks Rest r (inr failing) = inr (inr (r, failing, refl))

-- the rest of a row whose checks pass
pub checks_pass : (checks : List Check) (Rest : Row) (answer : Answer) → All Passes checks → OrMemory Rest answer → OrMemory (Checked checks Rest) answer
checks_pass checks Rest answer pass (inl memory) = inl memory
checks_pass checks Rest answer pass (inr rest) = inr (inl (pass, rest))

-- a refusal by a step
pub step_refuses : (Step : Row) (Rest : Expansion → Row) (r : Refusal) → OrMemory Step (Err r) → OrMemory (Then Step Rest) (Err r)
step_refuses Step Rest r (inl memory) = inl memory
step_refuses Step Rest r (inr step) = inr (inr (r, step, refl))

-- the rest behind a step
pub step_passes : (Step : Row) (Rest : Expansion → Row) (v : Expansion) (answer : Answer) → Step (Ok v) → OrMemory (Rest v) answer → OrMemory (Then Step Rest) answer
step_passes Step Rest v answer step (inl memory) = inl memory
step_passes Step Rest v answer step (inr rest) = inr (inl (v, step, rest))

-- a call that tests the checks of a row and answers its value
pub tests_row : (checks : List Check) (bases : List BasisId) (reading : Reading) (answer : Answer) → Tests checks answer → IfOk answer (Expands bases reading)
    → OrMemory (Checked checks (Answers bases reading)) answer
tests_row checks bases reading (Ok v) pass value = inr (inl (pass, (v, value, refl)))
tests_row checks bases reading (Err r) refused value = checks_refuse checks (Answers bases reading) r refused

-- the same where there is nothing to test
pub answers_row : (bases : List BasisId) (reading : Reading) (answer : Answer) → Tests [] answer → IfOk answer (Expands bases reading) → OrMemory (Answers bases reading) answer
answers_row bases reading (Ok v) pass value = inr (v, value, refl)
answers_row bases reading (Err r) (inl memory) value = let err : Refusal → Answer = λ x. Err x in inl (ap err memory)
answers_row bases reading (Err r) (inr failing) value = absurd failing
