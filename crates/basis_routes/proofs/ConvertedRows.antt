-- What a value becomes by conversions: the value over the new bases that reads as before.
use Rattle.std.proofs.Common.{◌≡◌, ℕ, ◌+◌, List, [], ◌∷◌, ◌++◌, length, map, get_or, Ok, inl, inr, refl, sym, ◌∙◌, ap, subst, arith, append_assoc}
use Rattle.std.proofs.lemmas.List.{length-append}
use Rattle.basis_names.specs.declared.bases.BasisId.{BasisId}
use Rattle.realisations.specs.Bases.{kind_of}
use Rattle.realisations.specs.Points.{Kind, ArePoints}
use Rattle.realisations.specs.Readings.{Reading}
use Rattle.realisations.proofs.Agreement.{agree_trans}
use Rattle.hopf_laws.specs.Values.{Expansion, IsValue, Expands, reading_of}
use Rattle.basis_routes.specs.declared.checks.Check.{Check}
use Rattle.basis_routes.specs.Conversions.{linear_checks, BroughtTo, ConvertsFrom, Converts}
use Rattle.basis_routes.specs.Lists.{replaced}
use Rattle.basis_routes.specs.Rows.{Answers}
use Rattle.basis_routes.proofs.ReplacedBases.{get_or-at, replaced-at, kinds-behind}
use Rattle.basis_routes.proofs.ValueRows.{same_value, value_is_no_refusal, checked_value, answers_value}

-- a value expands its own reading over its own bases
pub expands_itself : (v : Expansion) (bases : List BasisId) → IsValue v → v.bases ≡ bases → Expands bases (reading_of v) v
expands_itself v bases is over = record { value = is; over = over; reads = λ ps points. refl }

-- a value that reads as one that reads as a third
pub expands_trans : (bases : List BasisId) (reading : Reading) (v w : Expansion) → map kind_of bases ≡ map kind_of v.bases → Expands v.bases reading v → Expands bases (reading_of v) w → Expands bases reading w
expands_trans bases reading v w kinds h k = record {
  value = k.value;
  over = k.over;
  reads = λ ps points. agree_trans (reading_of w) (reading_of v) reading ps h.value.canonical.lowest.positive (k.reads ps points)
      (h.reads ps (subst (λ (ks : List Kind). ArePoints ks ps) kinds points));
}

-- one component is brought to a basis
pub brought_expands : (checks : List Check) (n : ℕ) (new : BasisId) (v w : Expansion) (before after : List BasisId) (old : BasisId) → IsValue v → v.bases ≡ before ++ old ∷ after → length before ≡ n
    → BroughtTo checks n new v (Ok w) → Expands (before ++ new ∷ after) (reading_of v) w
brought_expands checks n new v w before after old is over long (inl (same, here)) =
    let equal : old ≡ new = sym (get_or-at n before after old new long) ∙ ap (λ bs. get_or bs n new) (sym over) ∙ same in
    subst (λ (x : Expansion). Expands (before ++ new ∷ after) (reading_of v) x) (sym (same_value w v here))
    (expands_itself v (before ++ new ∷ after) is (over ∙ ap (λ b. before ++ b ∷ after) equal))
brought_expands checks n new v w before after old is over long (inr (other, row)) =
    let changed : List BasisId = replaced n (new ∷ []) v.bases in
    subst (λ bs. Expands bs (reading_of v) w) (ap (λ bs. replaced n (new ∷ []) bs) over ∙ replaced-at n before (new ∷ []) after old long)
    (answers_value changed (reading_of v) w (checked_value checks (Answers changed (reading_of v)) w row).1)

-- the components from n on are brought to others
pub converts_from_expands : (n : ℕ) (news before olds : List BasisId) (v w : Expansion) → IsValue v → v.bases ≡ before ++ olds → length before ≡ n → map kind_of news ≡ map kind_of olds
    → ConvertsFrom n news v (Ok w) → Expands (before ++ news) (reading_of v) w
converts_from_expands n [] before [] v w is over long kinds here =
    subst (λ (x : Expansion). Expands (before ++ []) (reading_of v) x) (sym (same_value w v here)) (expands_itself v (before ++ []) is over)
converts_from_expands n [] before (old ∷ olds) v w is over long kinds here = absurd (cc)
converts_from_expands n (new ∷ news) before [] v w is over long kinds h = absurd (cc)
converts_from_expands n (new ∷ news) before (old ∷ olds) v w is over long kinds (inr (r, step, here)) = absurd (value_is_no_refusal w r here)
converts_from_expands n (new ∷ news) before (old ∷ olds) v w is over long kinds (inl (x, step, later)) =
    let others : map kind_of news ≡ map kind_of olds = cc in
    let first = brought_expands (linear_checks v) n new v x before olds old is over long step in
    let second : Expands ((before ++ new ∷ []) ++ news) (reading_of x) w =
    converts_from_expands (n + 1) news (before ++ new ∷ []) olds x w first.value (first.over ∙ sym (append_assoc before (new ∷ []) olds))
    (omega (arith, long, length-append before (new ∷ []))) others later in
    expands_trans (before ++ new ∷ news) (reading_of v) x w
    (kinds-behind before (new ∷ news) (new ∷ olds) (ap (λ ks. kind_of new ∷ ks) others) ∙ ap (λ bs. map kind_of bs) (sym first.over))
    (subst (λ bs. Expands bs (reading_of v) x) (sym first.over) first)
    (subst (λ bs. Expands bs (reading_of x) w) (append_assoc before (new ∷ []) news) second)

-- all components are: the value over the new bases that reads as before
pub converts_expands : (targets : List BasisId) (v w : Expansion) → IsValue v → map kind_of targets ≡ map kind_of v.bases → Converts targets v (Ok w) → Expands targets (reading_of v) w
converts_expands targets v w is kinds h = converts_from_expands 0 targets [] v.bases v w is refl refl kinds h
