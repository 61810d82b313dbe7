-- Rows step by step, as code goes through them: a step that is refused ends the row, and after one that is not the rest is the row.
use Rattle.std.proofs.Common.{List, Ok, Err, inl, inr, refl, ap}
use Rattle.std.specs.Prelude.{All}
use Rattle.hopf_laws.specs.Values.{Expansion}
use Rattle.basis_routes.specs.declared.checks.Check.{Check}
use Rattle.basis_routes.specs.declared.refusal.Refusal.{Refusal}
use Rattle.basis_routes.specs.declared.refusal.Refusal.TheVariants.{Memory}
use Rattle.basis_routes.specs.Checks.{Passes, IsRefusalOf}
use Rattle.basis_routes.specs.Rows.{Answer, Row, Checked, Then, OrMemory}
use Rattle.basis_routes.proofs.ValueRows.{value_is_no_refusal}

-- the answer that is a refusal
abbrev pub refused : Refusal → Answer
refused r = Err r

-- a value is no want of memory
pub value_told : (Allowed : Row) (v : Expansion) → OrMemory Allowed (Ok v) → Allowed (Ok v)
value_told Allowed v (inl is) = absurd (value_is_no_refusal v Memory is)
value_told Allowed v (inr row) = row

-- a refusal by the checks of a row
pub checks_refuse : (checks : List Check) (Rest : Row) (r : Refusal) → IsRefusalOf checks r → OrMemory (Checked checks Rest) (Err r)
checks_refuse checks Rest r (inl memory) = inl (ap refused memory)
checks_refuse checks Rest r (inr failing) = inr (inr (r, failing, refl))

-- the rest of a row whose checks pass
pub checks_pass : (checks : List Check) (Rest : Row) (answer : Answer) → All Passes checks → OrMemory Rest answer → OrMemory (Checked checks Rest) answer
checks_pass checks Rest answer pass (inl memory) = inl memory
checks_pass checks Rest answer pass (inr rest) = inr (inl (pass, rest))

-- a refusal by a step
pub step_refuses : (Step : Row) (Rest : Expansion → Row) (r : Refusal) → OrMemory Step (Err r) → OrMemory (Then Step Rest) (Err r)
step_refuses Step Rest r (inl memory) = inl memory
step_refuses Step Rest r (inr step) = inr (inr (r, step, refl))

-- the rest behind a step
pub step_passes : (Step : Row) (Rest : Expansion → Row) (v : Expansion) (answer : Answer) → OrMemory Step (Ok v) → OrMemory (Rest v) answer → OrMemory (Then Step Rest) answer
step_passes Step Rest v answer step (inl memory) = inl memory
step_passes Step Rest v answer step (inr rest) = inr (inl (v, value_told Step v step, rest))
