-- The row of an equality allows exactly one answer.
use Rattle.std.proofs.Common.{◌≡◌, ℕ, Bool, ◌&&◌, List, length, Result, Ok, Err, refl, sym, ◌∙◌, ap, arith}
use Rattle.std.specs.Prelude.{max, ◌==◌}
use Rattle.std.specs.Bool.{Decides, one_answer}
use Rattle.std.proofs.lemmas.Bool.Decides.{Decides-and, Decides-eqb}
use Rattle.linear_combos.proofs.Equality.{terms_eq-Decides}
use Rattle.basis_names.specs.declared.bases.BasisId.{BasisId}
use Rattle.realisations.specs.Readings.{Terms}
use Rattle.hopf_laws.specs.Values.{Expansion, IsValue, degree_of_value}
use Rattle.basis_routes.specs.declared.refusal.Refusal.{Refusal}
use Rattle.basis_routes.specs.Conversions.{Converts}
use Rattle.basis_routes.specs.Joins.{joined}
use Rattle.basis_routes.specs.Rows.{Answer, Row}
use Rattle.basis_routes.proofs.ContainedBases.{lies_kinds}
use Rattle.basis_routes.proofs.ConvertedRows.{converts_expands}
use Rattle.basis_routes.proofs.ConversionsExist.{NotAbove, converts_some}
use Rattle.basis_routes.proofs.OnceRows.{IsOnce, checked_once, then_once, converts_once}
use Rattle.basis_routes.proofs.SomeRows.{ComesTo, checked_some, then_some}
use Rattle.basis_routes.proofs.ValueRows.{checked_value, then_value}
use Rattle.hopf_ops.specs.Laws.{EqualLaw}
use Rattle.hopf_ops.specs.Operations.{common_checks, BothBrought, ComparedRow, EqualAfter, EqualRow}
use Rattle.hopf_ops.proofs.BuiltJoins.{targets_of}
use Rattle.hopf_ops.proofs.EqualValues.{compared_agree}
use Rattle.hopf_ops.proofs.SumsExist.{common_checks_are}

-- terms are the same or not
terms_test : (ts us : Terms) → (same : Bool) × Decides same (ts ≡ us)
terms_test ts us = (_, terms_eq-Decides ts us _ refl)

-- so are two values over the same bases and of one rank
same_test : (x y : Expansion) → x.bases ≡ y.bases → x.combination.rank ≡ y.combination.rank → (same : Bool) × Decides same (x ≡ y)
same_test x y over rank =
    let terms = terms_test x.combination.terms y.combination.terms in
    let dens = x.combination.den == y.combination.den in
    let both = Decides-and dens terms.0 (Decides-eqb x.combination.den y.combination.den) terms.1 in (
      dens && terms.0,
      (
        λ yes. let h = both.0 yes in λ i. record { bases = over i; combination = record { rank = rank i; den = h.0 i; terms = h.1 i } },
        λ same. both.1 (ap (λ (v : Expansion). v.combination.den) same, ap (λ (v : Expansion). v.combination.terms) same),
      ),
    )

-- no answer is both a truth value and a refusal
abbrev answer_of : Expansion → Answer
answer_of v = Ok v

abbrev refused_by : Refusal → Answer
refused_by r = Err r

apart : (v : Expansion) (r : Refusal) → answer_of v ≡ refused_by r → ⊥
apart v r same = cc

-- after a row of at most one answer there is at most one
equal_after_once : (Brings : Row) (targets : List BasisId) (a b : Expansion) → IsOnce Brings
    → (r s : Result Bool Refusal) → EqualAfter Brings targets a b r → EqualAfter Brings targets a b s → r ≡ s
equal_after_once Brings targets a b once (Ok p) (Ok q) h k = let same : p ≡ q = one_answer p q h.1 k.1 in cc
equal_after_once Brings targets a b once (Ok p) (Err q) h k = absurd (apart h.0.0 q (once (answer_of h.0.0) (refused_by q) h.0.1 k))
equal_after_once Brings targets a b once (Err p) (Ok q) h k = absurd (apart k.0.0 p (once (answer_of k.0.0) (refused_by p) k.0.1 h))
equal_after_once Brings targets a b once (Err p) (Err q) h k = let same : refused_by p ≡ refused_by q = once (refused_by p) (refused_by q) h k in cc

module _ (a b : Expansion) (ha : IsValue a) (hb : IsValue b) where
  abbrev targets : List BasisId
  targets = joined a.bases b.bases

  abbrev degree : ℕ
  degree = max (degree_of_value a) (degree_of_value b)

  compared_once : IsOnce (ComparedRow a b)
  compared_once =
      checked_once (common_checks degree a b) (BothBrought targets a b)
      (then_once (Converts targets a) (λ (x : Expansion). Converts targets b) (converts_once targets a ha) (λ x hx. converts_once targets b hb))

  compared_some : ComesTo (ComparedRow a b) (NotAbove b)
  compared_some =
      checked_some (common_checks degree a b) (BothBrought targets a b) (NotAbove b) (common_checks_are degree a b)
      (λ pass.
      let are = targets_of degree a b ha hb pass in
      then_some (Converts targets a) (λ (x : Expansion). Converts targets b) (NotAbove a) (NotAbove b)
      (converts_some targets a ha are.left are.built (omega (arith, are.within)))
      (λ x hx less. converts_some targets b hb are.right are.built (omega (arith, are.within))))

  -- what both came to is the same or not
  told_equal : (y : Expansion) → ComparedRow a b (Ok y) → (answer : Result Bool Refusal) × EqualRow a b answer
  told_equal y row =
      let (pass, both) = checked_value (common_checks degree a b) (BothBrought targets a b) y row in
      let (x, hx, hy) = then_value (Converts targets a) (λ (u : Expansion). Converts targets b) y both in
      let are = targets_of degree a b ha hb pass in
      let ex = converts_expands targets a x ha (lies_kinds a.bases targets are.left) hx in
      let ey = converts_expands targets b y hb (lies_kinds b.bases targets are.right) hy in
      let over : x.bases ≡ y.bases = ex.over ∙ sym ey.over in
      let test = same_test x y over (ex.value.rank ∙ ap (λ (bs : List BasisId). length bs) over ∙ sym ey.value.rank) in
      (Ok test.0, ((y, row), compared_agree targets degree a b are x y test.0 hx hy test.1))

  equal_some : (answer : Result Bool Refusal) × EqualRow a b answer
  equal_some = from compared_some.answer compared_some.allowed
    where
      from : (s : Answer) → ComparedRow a b s → (answer : Result Bool Refusal) × EqualRow a b answer
      from (Ok y) row = told_equal y row
      from (Err r) row = (Err r, row)

-- an equality has exactly one answer
pub equals_decide : EqualLaw
equals_decide a b ha hb =
    let some = equal_some a b ha hb in
    (some.0, some.1, λ other is. equal_after_once (ComparedRow a b) (joined a.bases b.bases) a b (compared_once a b ha hb) other some.0 is some.1)
