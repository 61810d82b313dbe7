-- Values that rows allow: their checks pass, their steps came to values, and the rest allows them.
use Rattle.std.proofs.Common.{◌≡◌, ℕ, List, [], ◌∷◌, Ok, Err, inl, inr, refl, sym, subst}
use Rattle.std.specs.Prelude.{All}
use Rattle.basis_names.specs.declared.bases.BasisId.{BasisId}
use Rattle.realisations.specs.Readings.{Reading}
use Rattle.hopf_laws.specs.Values.{Expansion, IsValue, Expands, reading_of}
use Rattle.basis_routes.specs.declared.checks.Check.{Check}
use Rattle.basis_routes.specs.declared.refusal.Refusal.{Refusal}
use Rattle.basis_routes.specs.Checks.{Passes}
use Rattle.basis_routes.specs.Conversions.{BroughtTo, Converts, BothConvert}
use Rattle.basis_routes.specs.Lists.{replaced}
use Rattle.basis_routes.specs.Rows.{Answer, Row, Checked, Then, Answers}

-- a value is no refusal
no_refusal : (v : Expansion) (r : Refusal) (ok err : Answer) → ok ≡ Ok v → err ≡ Err r → ok ≡ err → ⊥
no_refusal v r ok err is is' same = cc

pub value_is_no_refusal : (v : Expansion) (r : Refusal) → Ok v ≡ Err r → ⊥
value_is_no_refusal v r same = no_refusal v r (Ok v) (Err r) refl refl same

-- the answer that is a value
abbrev pub told : Expansion → Answer
told v = Ok v

-- answers that are one value
pub same_value : (v w : Expansion) → told v ≡ told w → v ≡ w
same_value v w both = cc

-- its checks pass, and the rest answers it
pub checked_value : (checks : List Check) (Rest : Row) (v : Expansion) → Checked checks Rest (Ok v) → All Passes checks × Rest (Ok v)
checked_value checks Rest v (inl h) = h
checked_value checks Rest v (inr (r, failing, is)) = absurd (value_is_no_refusal v r is)

-- the step came to a value, and the rest answers it
pub then_value : (Step : Row) (Rest : Expansion → Row) (v : Expansion) → Then Step Rest (Ok v) → (u : Expansion) × Step (Ok u) × Rest u (Ok v)
then_value Step Rest v (inl h) = h
then_value Step Rest v (inr (r, step, is)) = absurd (value_is_no_refusal v r is)

-- it expands the reading
pub answers_value : (bases : List BasisId) (reading : Reading) (v : Expansion) → Answers bases reading (Ok v) → Expands bases reading v
answers_value bases reading v (w, h, is) = subst (λ (x : Expansion). Expands bases reading x) (sym (same_value v w is)) h

-- both operands came to values, and the rest answers it
pub both_convert_value : (targets : List BasisId) (a b : Expansion) (Rest : Expansion → Expansion → Row) (v : Expansion) → BothConvert targets a b Rest (Ok v)
    → (x : Expansion) × (y : Expansion) × Converts targets a (Ok x) × Converts targets b (Ok y) × Rest x y (Ok v)
both_convert_value targets a b Rest v (inl (x, hx, inl (y, hy, rest))) = (x, y, hx, hy, rest)
both_convert_value targets a b Rest v (inl (x, hx, inr (r, hr, is))) = absurd (value_is_no_refusal v r is)
both_convert_value targets a b Rest v (inr (r, hr, is)) = absurd (value_is_no_refusal v r is)

-- what a component is brought to is a value again
pub brought_value : (checks : List Check) (n : ℕ) (new : BasisId) (v w : Expansion) → IsValue v → BroughtTo checks n new v (Ok w) → IsValue w
brought_value checks n new v w is (inl (same, here)) = subst IsValue (sym (same_value w v here)) is
brought_value checks n new v w is (inr (other, row)) =
    (answers_value (replaced n (new ∷ []) v.bases) (reading_of v) w (checked_value checks (Answers (replaced n (new ∷ []) v.bases) (reading_of v)) w row).1).value
