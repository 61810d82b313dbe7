-- An equality of two expressions has exactly one answer, and tells whether they mean the same.
use Rattle.std.proofs.Common.{◌≡◌, ℕ, inl, inr, Bool, IsTrue, List, Result, Ok, Err, map, refl, sym, ◌∙◌, ap, subst}
use Rattle.std.specs.Prelude.{◌↔◌, max}
use Rattle.realisations.specs.Bases.{kind_of}
use Rattle.realisations.specs.Points.{Kind, ArePoints}
use Rattle.realisations.specs.Readings.{Reading, kinds_of, AgreeAt}
use Rattle.realisations.proofs.Agreement.{agree_trans}
use Rattle.hopf_laws.specs.Values.{Expansion, IsValue, reading_of, degree_of_value}
use Rattle.basis_routes.specs.declared.refusal.Refusal.{Refusal}
use Rattle.basis_routes.specs.Joins.{joined}
use Rattle.basis_routes.proofs.ValueRows.{checked_value}
use Rattle.hopf_ops.specs.Operations.{common_checks, AgreeOver, BothBrought, EqualRow}
use Rattle.session_grammar.specs.declared.expression.Expr.{Expr}
use Rattle.session_evaluation.specs.declared.refusal.EvaluationRefusal.{EvaluationRefusal}
use Rattle.session_evaluation.specs.Built.{IsBuilt}
use Rattle.session_evaluation.specs.Evaluation.{Answer, told, Allows, OrMemory, Evaluates, Compares, first_refused, second_refused, compared}
use Rattle.session_evaluation.specs.Laws.{EqualityMeaning}
use Rattle.session_evaluation.specs.Meaning.{Means, TellsSame}
use Rattle.session_evaluation.specs.Names.{Names, AreValues}
use Rattle.session_evaluation.proofs.EvaluationsExist.{evaluation_exists}
use Rattle.session_evaluation.proofs.GoodAnswers.{evaluated_value}
use Rattle.session_evaluation.proofs.Meanings.{Alike, answer_meant, common_kinds}
use Rattle.session_evaluation.proofs.OneEvaluation.{evaluation_once}
use Rattle.session_evaluation.proofs.RowLaws.{row_laws}
use Rattle.basis_routes.specs.declared.refusal.Refusal.TheVariants as value
use Rattle.session_evaluation.specs.declared.refusal.EvaluationRefusal.TheVariants as refusal

-- true or false, or why an equality is neither
abbrev pub Comparison : Type 0
Comparison = Result Bool EvaluationRefusal

-- How a call of the comparison follows its cases.

-- the first expression is refused, or wants memory
pub compares_first : (names : Names) (x y : Expr) (r : EvaluationRefusal) → OrMemory (Evaluates names x) (Err r) → OrMemory (Compares names x y) (Err r)
compares_first names x y r (inl memory) = let err : EvaluationRefusal → Comparison = λ q. Err q in inl (ap err (same_refusal r memory))
  where
    refusal_of : (q : EvaluationRefusal) (answer other : Answer) → answer ≡ Err q → other ≡ Err (refusal.Value value.Memory) → answer ≡ other → q ≡ refusal.Value value.Memory
    refusal_of q answer other is is' same = cc

    same_refusal : (q : EvaluationRefusal) → ◌≡◌ {A = Answer} (Err q) (Err (refusal.Value value.Memory)) → q ≡ refusal.Value value.Memory
    same_refusal q same = refusal_of q (Err q) (Err (refusal.Value value.Memory)) refl refl same
compares_first names x y r (inr h) = inr (first_refused h)

-- an answer that is no refusal did not want memory
evaluated : (names : Names) (x : Expr) (a : Expansion) → OrMemory (Evaluates names x) (Ok a) → Evaluates names x (Ok a)
evaluated names x a (inl memory) = absurd (let both : ◌≡◌ {A = Answer} (Ok a) (Err (refusal.Value value.Memory)) = memory in cc)
evaluated names x a (inr h) = h

-- the second one is
pub compares_second : (names : Names) (x y : Expr) (a : Expansion) (r : EvaluationRefusal) → OrMemory (Evaluates names x) (Ok a) → OrMemory (Evaluates names y) (Err r) → OrMemory (Compares names x y) (Err r)
compares_second names x y a r h (inl memory) =
    let err : EvaluationRefusal → Comparison = λ q. Err q in
    let same : ◌≡◌ {A = Answer} (Err r) (Err (refusal.Value value.Memory)) = memory in
    let is : r ≡ refusal.Value value.Memory = cc in
    inl (ap err is)
compares_second names x y a r h (inr k) = inr (second_refused (evaluated names x a h) k)

-- both are values, and these are compared
pub compares_values : (names : Names) (x y : Expr) (a b : Expansion) (answer : Comparison) → OrMemory (Evaluates names x) (Ok a) → OrMemory (Evaluates names y) (Ok b)
    → OrMemory (Allows (EqualRow a b)) answer → OrMemory (Compares names x y) answer
compares_values names x y a b answer h k (inl memory) = inl memory
compares_values names x y a b answer h k (inr allows) = inr (compared (evaluated names x a h) (evaluated names y b k) allows)

-- It has exactly one answer.

-- so has the comparison of two values
allows_once : (a b : Expansion) (r s : Comparison) → IsValue a → IsValue b → Allows (EqualRow a b) r → Allows (EqualRow a b) s → r ≡ s
allows_once a b r s ha hb (p, hp, is) (q, hq, is') =
    let found = row_laws.equal a b ha hb in
    let tell : Result Bool Refusal → Comparison = told in
    is ∙ ap tell (found.2 p hp ∙ sym (found.2 q hq)) ∙ sym is'

module _ (names : Names) (are : AreValues names) (x y : Expr) (hx : IsBuilt x) (hy : IsBuilt y) where
  not_both : (z : Expr) (v : Expansion) (r : EvaluationRefusal) → IsBuilt z → Evaluates names z (Ok v) → Evaluates names z (Err r) → ⊥
  not_both z v r built h k = let same : ◌≡◌ {A = Answer} (Ok v) (Err r) = evaluation_once names z (Ok v) (Err r) are built h k in absurd (cc)

  same_refusal : (z : Expr) (r q : EvaluationRefusal) → IsBuilt z → Evaluates names z (Err r) → Evaluates names z (Err q) → ◌≡◌ {A = Comparison} (Err r) (Err q)
  same_refusal z r q built h k =
      let err : EvaluationRefusal → Comparison = λ p. Err p in
      let same : ◌≡◌ {A = Answer} (Err r) (Err q) = evaluation_once names z (Err r) (Err q) are built h k in
      let is : r ≡ q = cc in
      ap err is

  same_value : (z : Expr) (v w : Expansion) → IsBuilt z → Evaluates names z (Ok v) → Evaluates names z (Ok w) → v ≡ w
  same_value z v w built h k = let same : ◌≡◌ {A = Answer} (Ok v) (Ok w) = evaluation_once names z (Ok v) (Ok w) are built h k in cc

  pub comparison_once : (r s : Comparison) → Compares names x y r → Compares names x y s → r ≡ s
  comparison_once r s (first_refused {r = p} h) (first_refused {r = q} k) = same_refusal x p q hx h k
  comparison_once r s (first_refused {r = p} h) (second_refused {a = a} k k') = absurd (not_both x a p hx k h)
  comparison_once r s (first_refused {r = p} h) (compared {a = a} k k' allows) = absurd (not_both x a p hx k h)
  comparison_once r s (second_refused {a = a} h h') (first_refused {r = q} k) = absurd (not_both x a q hx h k)
  comparison_once r s (second_refused {r = p} h h') (second_refused {r = q} k k') = same_refusal y p q hy h' k'
  comparison_once r s (second_refused {r = p} h h') (compared {b = b} k k' allows) = absurd (not_both y b p hy k' h')
  comparison_once r s (compared {a = a} h h' allows) (first_refused {r = q} k) = absurd (not_both x a q hx h k)
  comparison_once r s (compared {b = b} h h' allows) (second_refused {r = q} k k') = absurd (not_both y b q hy h' k')
  comparison_once r s (compared {a = a} {b = b} h h' allows) (compared {a = c} {b = d} k k' allows') =
      allows_once a b r s (evaluated_value names x a are hx h) (evaluated_value names y b are hy h') allows
      (subst (λ (v : Expansion). Allows (EqualRow v b) s) (sym (same_value x a c hx h k))
      (subst (λ (w : Expansion). Allows (EqualRow c w) s) (sym (same_value y b d hy h' k')) allows'))

  with_second : (a : Expansion) → Evaluates names x (Ok a) → (second : Answer) → Evaluates names y second → (answer : Comparison) × Compares names x y answer
  with_second a h (Ok b) k =
      let found = row_laws.equal a b (evaluated_value names x a are hx h) (evaluated_value names y b are hy k) in
      (told found.0, compared h k (found.0, found.1, refl))
  with_second a h (Err r) k = (Err r, second_refused h k)

  with_first : (first : Answer) → Evaluates names x first → (answer : Comparison) × Compares names x y answer
  with_first (Ok a) h = let second = evaluation_exists names y are hy in with_second a h second.0 second.1
  with_first (Err r) h = (Err r, first_refused h)

  pub comparison_exists : (answer : Comparison) × Compares names x y answer
  comparison_exists = let first = evaluation_exists names x are hx in with_first first.0 first.1

-- It tells whether the expressions mean the same.

-- two values that are alike to readings agree exactly where these do
agree_alike : (a b : Expansion) (q r : Reading) (answer : Bool) → Alike (reading_of a) q → Alike (reading_of b) r → map kind_of a.bases ≡ map kind_of b.bases → map kind_of a.bases ≡ map kind_of (joined a.bases b.bases)
    → (IsTrue answer ↔ AgreeOver (joined a.bases b.bases) a b) → IsTrue answer ↔ ((ps : List (List ℕ)) → ArePoints (kinds_of q) ps → AgreeAt q r ps)
agree_alike a b q r answer first second kinds over tells = (
  λ yes ps points.
      let here : ArePoints (map kind_of a.bases) ps = subst (λ (ks : List Kind). ArePoints ks ps) (sym first.kinds) points in
      agree_trans q (reading_of a) r ps first.left (sym (first.agree ps here))
      (agree_trans (reading_of a) (reading_of b) r ps second.left (tells.0 yes ps (subst (λ (ks : List Kind). ArePoints ks ps) over here))
      (second.agree ps (subst (λ (ks : List Kind). ArePoints ks ps) kinds here))),
  λ agree.
      tells.1
      (λ ps points.
      let here : ArePoints (map kind_of a.bases) ps = subst (λ (ks : List Kind). ArePoints ks ps) (sym over) points in
      agree_trans (reading_of a) q (reading_of b) ps first.right (first.agree ps here)
      (agree_trans q r (reading_of b) ps second.right (agree ps (subst (λ (ks : List Kind). ArePoints ks ps) first.kinds here))
      (sym (second.agree ps (subst (λ (ks : List Kind). ArePoints ks ps) kinds here))))),
)

-- the truth value that a row allows
allowed_truth : (a b : Expansion) (answer : Bool) → Allows (EqualRow a b) (Ok answer) → EqualRow a b (Ok answer)
allowed_truth a b answer (Ok same, h, is) = let equal : answer ≡ same = cc in subst (λ (t : Bool). EqualRow a b (Ok t)) (sym equal) h
allowed_truth a b answer (Err r, h, is) = absurd (let both : ◌≡◌ {A = Comparison} (Ok answer) (Err (refusal.Value r)) = is in cc)

values_tell : (names : Names) (x y : Expr) (a b : Expansion) (answer : Bool) → AreValues names → Evaluates names x (Ok a) → Evaluates names y (Ok b) → EqualRow a b (Ok answer) → TellsSame names x y answer
values_tell names x y a b answer are hx hy row =
    let first : (q : Reading) × Means names x q × Alike (reading_of a) q = answer_meant are hx in
    let second : (r : Reading) × Means names y r × Alike (reading_of b) r = answer_meant are hy in
    let degree = max (degree_of_value a) (degree_of_value b) in
    let kinds = common_kinds degree a b (checked_value (common_checks degree a b) (BothBrought (joined a.bases b.bases) a b) row.0.0 row.0.1).0 in
    record {
      first = first.0;
      second = second.0;
      means_first = first.1;
      means_second = second.1;
      positive_first = first.2.right;
      positive_second = second.2.right;
      kinds = sym first.2.kinds ∙ kinds.0 ∙ second.2.kinds;
      tells = agree_alike a b first.0 second.0 answer first.2 second.2 kinds.0 kinds.1 row.1;
    }

pub equality_meant : EqualityMeaning
equality_meant names x y answer are (compared {a = a} {b = b} h k allows) = values_tell names x y a b answer are h k (allowed_truth a b answer allows)
