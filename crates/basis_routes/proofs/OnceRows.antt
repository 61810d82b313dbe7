-- Rows that allow at most one answer.
use Rattle.std.proofs.Common.{◌≡◌, ℕ, ◌+◌, ◌≤◌, List, [], ◌∷◌, Ok, Err, inl, inr, sym, ◌∙◌, ap, subst}
use Rattle.std.specs.Prelude.{All}
use Rattle.basis_names.specs.declared.bases.BasisId.{BasisId}
use Rattle.realisations.specs.Readings.{Reading, denominator}
use Rattle.hopf_laws.specs.Values.{Expansion, IsValue, reading_of}
use Rattle.hopf_laws.proofs.Uniqueness.{expands_once}
use Rattle.basis_routes.specs.declared.checks.Check.{Check}
use Rattle.basis_routes.specs.declared.refusal.Refusal.{Refusal}
use Rattle.basis_routes.specs.Checks.{Passes}
use Rattle.basis_routes.specs.Conversions.{linear_checks, BroughtTo, ConvertsAt, ConvertsFrom, Converts, BothConvert}
use Rattle.basis_routes.specs.Lists.{replaced}
use Rattle.basis_routes.specs.Rows.{Answer, Row, Checked, Then, Answers}
use Rattle.basis_routes.proofs.FailingChecks.{failing_once, none_fails}
use Rattle.basis_routes.proofs.ValueRows.{brought_value}

-- two answers of the row are the same
abbrev pub IsOnce : Row → Type 0
IsOnce Allowed = (r s : Answer) → Allowed r → Allowed s → r ≡ s

-- checks before a rest that has at most one answer where they pass
pub checked_once_where : (checks : List Check) (Rest : Row) → (All Passes checks → IsOnce Rest) → IsOnce (Checked checks Rest)
checked_once_where checks Rest once r s (inl (pass, rest)) (inl (pass', rest')) = once pass r s rest rest'
checked_once_where checks Rest once r s (inl (pass, rest)) (inr (q, failing, is)) = absurd (none_fails checks q pass failing)
checked_once_where checks Rest once r s (inr (q, failing, is)) (inl (pass, rest)) = absurd (none_fails checks q pass failing)
checked_once_where checks Rest once r s (inr (q, failing, is)) (inr (q', failing', is')) =
    let refused : Refusal → Answer = λ x. Err x in
    is ∙ ap refused (failing_once checks q q' failing failing') ∙ sym is'

-- or always
pub checked_once : (checks : List Check) (Rest : Row) → IsOnce Rest → IsOnce (Checked checks Rest)
checked_once checks Rest once = checked_once_where checks Rest (λ pass. once)

-- a step of at most one answer before a rest that has at most one after each value of the step
pub then_once : (Step : Row) (Rest : Expansion → Row) → IsOnce Step → ((v : Expansion) → Step (Ok v) → IsOnce (Rest v)) → IsOnce (Then Step Rest)
then_once Step Rest once later r s (inl (v, step, rest)) (inl (w, step', rest')) =
    let ok : Expansion → Answer = λ x. Ok x in
    let both : ok v ≡ ok w = once (ok v) (ok w) step step' in
    let same : v ≡ w = cc in
    later v step r s rest (subst (λ (x : Expansion). Rest x s) (sym same) rest')
then_once Step Rest once later r s (inl (v, step, rest)) (inr (q, step', is)) =
    let ok : Answer = Ok v in
    let err : Answer = Err q in
    absurd (let both : ok ≡ err = once ok err step step' in cc)
then_once Step Rest once later r s (inr (q, step, is)) (inl (v, step', rest)) =
    let ok : Answer = Ok v in
    let err : Answer = Err q in
    absurd (let both : err ≡ ok = once err ok step step' in cc)
then_once Step Rest once later r s (inr (q, step, is)) (inr (q', step', is')) =
    let err : Refusal → Answer = λ x. Err x in
    let both : err q ≡ err q' = once (err q) (err q') step step' in
    let same : q ≡ q' = cc in
    is ∙ ap err same ∙ sym is'

-- at most one value reads so
pub answers_once : (bases : List BasisId) (reading : Reading) → 1 ≤ denominator reading → IsOnce (Answers bases reading)
answers_once bases reading positive r s (v, h, is) (w, k, is') =
    let ok : Expansion → Answer = λ x. Ok x in
    is ∙ ap ok (expands_once bases reading v w positive h k) ∙ sym is'

-- a component is brought to a basis in at most one way
pub brought_once : (checks : List Check) (n : ℕ) (new : BasisId) (v : Expansion) → IsValue v → IsOnce (BroughtTo checks n new v)
brought_once checks n new v is r s (inl (same, here)) (inl (same', here')) = here ∙ sym here'
brought_once checks n new v is r s (inl (same, here)) (inr (other, row)) = absurd (other same)
brought_once checks n new v is r s (inr (other, row)) (inl (same, here)) = absurd (other same)
brought_once checks n new v is r s (inr (other, row)) (inr (other', row')) =
    checked_once checks (Answers (replaced n (new ∷ []) v.bases) (reading_of v))
    (answers_once (replaced n (new ∷ []) v.bases) (reading_of v) is.canonical.lowest.positive) r s row row'

-- so are the components from one on
pub converts_from_once : (n : ℕ) (news : List BasisId) (v : Expansion) → IsValue v → IsOnce (ConvertsFrom n news v)
converts_from_once n [] v is r s h k = h ∙ sym k
converts_from_once n (new ∷ news) v is r s h k =
    then_once (ConvertsAt n new v) (ConvertsFrom (n + 1) news) (brought_once (linear_checks v) n new v is)
    (λ w step. converts_from_once (n + 1) news w (brought_value (linear_checks v) n new v w is step)) r s h k

-- and all components
pub converts_once : (targets : List BasisId) (v : Expansion) → IsValue v → IsOnce (Converts targets v)
converts_once targets v is = converts_from_once 0 targets v is

-- and those of two values, before a rest that has at most one answer
pub both_convert_once : (targets : List BasisId) (a b : Expansion) (Rest : Expansion → Expansion → Row) → IsValue a → IsValue b
    → ((x y : Expansion) → Converts targets a (Ok x) → Converts targets b (Ok y) → IsOnce (Rest x y)) → IsOnce (BothConvert targets a b Rest)
both_convert_once targets a b Rest ha hb once =
    then_once (Converts targets a) (λ (x : Expansion). Then (Converts targets b) (Rest x)) (converts_once targets a ha)
    (λ x hx. then_once (Converts targets b) (Rest x) (converts_once targets b hb) (λ y hy. once x y hx hy))
