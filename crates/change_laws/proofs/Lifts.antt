-- The lift of a rule to one component of a combination reads as the change or the operation that the rule is, on that component.
use Rattle.std.proofs.Common.{◌≡◌, ℕ, List, [], ◌∷◌, ◌++◌, length, map, refl, sym, ◌∙◌, ap, arith}
use Rattle.std.proofs.Math.IntN.{pos, ◌*ℤ◌, pos-*ℤ-pos}
use Rattle.hopf_num.proofs.Ring.{*ℤ-pos_cancel}
use Rattle.basis_names.specs.declared.bases.BasisId.{BasisId}
use Rattle.realisations.specs.Bases.{kind_of}
use Rattle.realisations.specs.Codes.{Code, Key}
use Rattle.realisations.specs.Combinations.{Combination, HasKey, term_at, weighed}
use Rattle.realisations.specs.Indices.{AreIndices}
use Rattle.realisations.specs.Lists.{one_if}
use Rattle.realisations.specs.Occurrence.{occurs}
use Rattle.realisations.specs.Points.{Point, Points, ArePoints}
use Rattle.realisations.specs.Readings.{Terms, Reading, leaf, applied, element, occurrence, numerator, denominator}
use Rattle.realisations.proofs.Coefficients.{each_from, weighed_same}
use Rattle.realisations.proofs.TuplesOfPoints.{length-points_over}
use Rattle.change_laws.specs.Lifts.{code_at, replaced, occurrence_beside, IsLifted, AnswersAt, ComponentReadingsLaw, ChangeLiftLaw, OperationLiftLaw}
use Rattle.change_laws.proofs.ChangeAnswers.{numerator-element}
use Rattle.change_laws.proofs.LiftedKeys.{occurrence-at, weighed-replaced}
use Rattle.change_laws.proofs.OperationsAt.{operated}

-- a combination reads as the sum over its keys of the other components times the element at one
elements_at : (before after : List BasisId) (basis : BasisId) (den : ℕ) (ts : Terms) (ps rs : Points) (q : Point) → length ps ≡ length before
    → ((key : Key) → HasKey ts key → AreIndices (before ++ basis ∷ after) key)
    → numerator (leaf (before ++ basis ∷ after) den ts) (ps ++ q ∷ rs)
    ≡ weighed (λ key. pos (occurrence_beside before after key ps rs) *ℤ numerator (element basis (code_at (length before) key)) (q ∷ [])) ts
elements_at before after basis den ts ps rs q ep indices =
    weighed_same (λ key. pos (occurrence (before ++ basis ∷ after) key (ps ++ q ∷ rs)))
    (λ key. pos (occurrence_beside before after key ps rs) *ℤ numerator (element basis (code_at (length before) key)) (q ∷ [])) ts
    (each_from _ ts (λ i lt. at_key ((term_at ts i).1) (indices ((term_at ts i).1) (i, lt, refl))))
  where
    at_key : (key : Key) → AreIndices (before ++ basis ∷ after) key
        → pos (occurrence (before ++ basis ∷ after) key (ps ++ q ∷ rs)) ≡ pos (occurrence_beside before after key ps rs) *ℤ numerator (element basis (code_at (length before) key)) (q ∷ [])
    at_key key h =
        let beside = occurrence_beside before after key ps rs in
        ap pos (occurrence-at before after basis key h ps rs q ep)
        ∙ sym (pos-*ℤ-pos beside (one_if (occurs basis (code_at (length before) key) q)))
        ∙ ap (λ z. pos beside *ℤ z) (sym (numerator-element basis (code_at (length before) key) q))

-- and an operation on that component in the same way
pub component_readings : ComponentReadingsLaw
component_readings = record { elements = elements_at; operations = operated }

-- the lifted terms read as the sum over the old keys of the other components, times the reading of its code there
lifted : (before after middle : List BasisId) (from : BasisId) (reading : Code → Reading) (answer : Code → Combination) (den : ℕ) (old new : Terms) (ps qs rs : Points)
    → length ps ≡ length before → ArePoints (map kind_of middle) qs → ((code : Code) → denominator (reading code) ≡ 1)
    → ((key : Key) → HasKey old key → AreIndices (before ++ from ∷ after) key) → AnswersAt from middle reading answer (length before) old → IsLifted answer (length before) old new
    → numerator (leaf (before ++ (middle ++ after)) den new) (ps ++ (qs ++ rs))
    ≡ weighed (λ key. pos (occurrence_beside before after key ps rs) *ℤ numerator (reading (code_at (length before) key)) qs) old
lifted before after middle from reading answer den old new ps qs rs ep points whole indices answers is =
    is (λ key. pos (occurrence (before ++ (middle ++ after)) key (ps ++ (qs ++ rs))))
    ∙ weighed_same (λ key. weighed (λ codes. pos (occurrence (before ++ (middle ++ after)) (replaced (length before) codes key) (ps ++ (qs ++ rs)))) (answer (code_at (length before) key)).terms)
    (λ key. pos (occurrence_beside before after key ps rs) *ℤ numerator (reading (code_at (length before) key)) qs) old
    (each_from _ old (λ i lt. at_key ((term_at old i).1) (i, lt, refl)))
  where
    at_key : (key : Key) → HasKey old key
        → weighed (λ codes. pos (occurrence (before ++ (middle ++ after)) (replaced (length before) codes key) (ps ++ (qs ++ rs)))) (answer (code_at (length before) key)).terms
        ≡ pos (occurrence_beside before after key ps rs) *ℤ numerator (reading (code_at (length before) key)) qs
    at_key key has =
        let code = code_at (length before) key in
        let ts = (answer code).terms in
        let a = answers key has in
        let reads : numerator (leaf middle 1 ts) qs ≡ numerator (reading code) qs =
        *ℤ-pos_cancel (numerator (leaf middle 1 ts) qs) (numerator (reading code) qs) 1 (omega arith)
        (ap (λ n. numerator (leaf middle 1 ts) qs *ℤ pos n) (sym (whole code)) ∙ a.reads qs points) in
        weighed-replaced before after middle from key ts ps qs rs (indices key has) a.indices ep (length-points_over middle qs points)
        ∙ ap (λ z. pos (occurrence_beside before after key ps rs) *ℤ z) reads

-- a change keeps the reading
pub change_lifts : ChangeLiftLaw
change_lifts before after from to answer den old new ps rs q ep point indices answers is =
    lifted before after (to ∷ []) from (element from) answer den old new ps (q ∷ []) rs ep (point, tt) (λ code. refl) indices answers is
    ∙ sym (elements_at before after from den old ps rs q ep indices)

-- what an operation makes of elements it makes of combinations
pub operation_lifts : OperationLiftLaw
operation_lifts operation one before after middle from answer den old new ps qs rs em ep points indices answers is =
    lifted before after middle from (λ code. applied operation 0 (element from code)) answer den old new ps qs rs ep points (λ code. refl) indices answers is
    ∙ sym (operated operation one before after from den old ps qs rs ep (length-points_over middle qs points ∙ em) indices)
