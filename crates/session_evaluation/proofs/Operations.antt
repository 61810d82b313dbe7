-- What a call of an operation answers is what its row allows.
use Rattle.std.proofs.Common.{◌≡◌, inl, inr, Result, refl, sym, ◌∙◌, ap, subst}
use Rattle.session_tokens.specs.declared.lexeme.Linear.{Linear}
use Rattle.hopf_laws.specs.Values.{Expansion}
use Rattle.basis_routes.specs.declared.place.Place.{Place}
use Rattle.basis_routes.specs.declared.refusal.Refusal.{Refusal}
use Rattle.basis_routes.specs.Rows.{Row, OrMemory as RowOrMemory}
use Rattle.hopf_ops.specs.declared.operator.Operator.{Operator}
use Rattle.hopf_ops.specs.Operations.{RowOf}
use Rattle.session_evaluation.specs.Functions.{LinearRow}
use Rattle.session_evaluation.specs.Evaluation.{Answer, told, OrMemory, Allows, Operates}

allowed : (Allowed : Row) (result : Result Expansion Refusal) → RowOrMemory Allowed result → OrMemory (Allows Allowed) (told result)
allowed Allowed result (inl memory) = inl (ap told memory)
allowed Allowed result (inr h) = inr (result, h, refl)

-- an answer that is told of the call's
pub allows_told : (Allowed : Row) (answer : Answer) (result : Result Expansion Refusal) → answer ≡ told result → RowOrMemory Allowed result → OrMemory (Allows Allowed) answer
allows_told Allowed answer result tells h = subst (λ (r : Answer). OrMemory (Allows Allowed) r) (sym tells) (allowed Allowed result h)

-- the same of an operation that is told by a name
pub operated_as : (o p : Operator) (a b : Expansion) (answer : Answer) (told_of result : Result Expansion Refusal) → o ≡ p → answer ≡ told told_of → told_of ≡ result
    → RowOrMemory (RowOf p a b) result → OrMemory (Operates o a b) answer
operated_as o p a b answer told_of result is tells same h =
    subst (λ (q : Operator). OrMemory (Operates q a b) answer) (sym is) (allows_told (RowOf p a b) answer result (tells ∙ ap told same) h)

-- the same of a function on a component, both told by names
pub mapped_as : (f g : Linear) (at of : Place) (a : Expansion) (answer : Answer) (result : Result Expansion Refusal) → f ≡ g → of ≡ at → answer ≡ told result
    → RowOrMemory (LinearRow g of a) result → OrMemory (Allows (LinearRow f at a)) answer
mapped_as f g at of a answer result is here tells h =
    subst (λ (m : Linear). OrMemory (Allows (LinearRow m at a)) answer) (sym is)
    (subst (λ (p : Place). OrMemory (Allows (LinearRow g p a)) answer) here (allows_told (LinearRow g of a) answer result tells h))
