-- Conversions have values where the linear rule holds.
use Rattle.std.proofs.Common.{◌≡◌, ◌≢◌, ℕ, ◌+◌, ◌*◌, ◌≤◌, IsTrue, List, [], ◌∷◌, ◌++◌, length, map, get_or, inl, inr, refl, sym, ◌∙◌, ap, subst, arith, append_assoc}
use Rattle.std.specs.Prelude.{All, min}
use Rattle.std.proofs.lemmas.List.{length-append}
use Rattle.std.proofs.lemmas.List.Elements.{All-nil, All-cons}
use Rattle.basis_names.specs.declared.bases.BasisId.{BasisId}
use Rattle.basis_changes.proofs.ChangesExist.{all_changes_exist}
use Rattle.basis_names.specs.Bases.{algebra_of, limit_of}
use Rattle.built_bases.specs.Table.{is_built}
use Rattle.index_rules.specs.Lifts.{IsLift}
use Rattle.index_rules.specs.Spaces.{limit_for}
use Rattle.index_rules.proofs.LiftsExist.{lifts_exist}
use Rattle.realisations.specs.Bases.{lies_in}
use Rattle.realisations.specs.Combinations.{Combination, norm_of}
use Rattle.hopf_num.specs.declared.room.Need.TheVariants.{Linear}
use Rattle.hopf_laws.specs.Bases.{AreBuilt, least_limit}
use Rattle.hopf_laws.specs.Values.{Expansion, IsValue, Expands, reading_of, degree_of_value}
use Rattle.basis_routes.specs.declared.checks.Check.{Check}
use Rattle.basis_routes.specs.declared.checks.Check.TheVariants.{Room}
use Rattle.basis_routes.specs.Checks.{Passes, IsCheck}
use Rattle.basis_routes.specs.Conversions.{linear_checks, BroughtTo, ConvertsAt, ConvertsFrom, Converts, BothConvert}
use Rattle.basis_routes.specs.Joins.{LieIn}
use Rattle.basis_routes.specs.Lists.{replaced}
use Rattle.basis_routes.specs.Rows.{Row, Then, Answers}
use Rattle.basis_routes.proofs.BasesAround.{built-here, IsWithin, within_each, within-back}
use Rattle.basis_routes.proofs.ChangedValues.{below_both, change_of}
use Rattle.basis_routes.proofs.ContainedBases.{lies_kinds}
use Rattle.basis_routes.proofs.ConvertedRows.{brought_expands, converts_expands}
use Rattle.basis_routes.proofs.Degrees.{degree_within, degree-small}
use Rattle.basis_routes.proofs.EqualBases.{same_basis_decided}
use Rattle.basis_routes.proofs.LiftedValues.{over, can_lift, lifted_value, lifted_degree, change_expands}
use Rattle.basis_routes.proofs.ReplacedBases.{get_or-at, replaced-at, within_less, within_replaced}
use Rattle.basis_routes.proofs.SomeRows.{ComesTo, comes_to_value, checked_some, then_some, answers_some}

-- of no greater degree than a value
abbrev pub NotAbove : Expansion → Expansion → Type 0
NotAbove v w = degree_of_value w ≤ degree_of_value v

-- a value over these bases that reads as another one, of no greater degree
pub record IsConverted (targets : List BasisId) (v w : Expansion) : Type 0 where
  pub expands : Expands targets (reading_of v) w
  pub less : degree_of_value w ≤ degree_of_value v

module _ (before after : List BasisId) (old new : BasisId) (v : Expansion) (is : IsValue v) (at : v.bases ≡ before ++ old ∷ after) where
  -- the value, with the component between the others
  same : v ≡ over (before ++ old ∷ after) v.combination
  same = λ i. record { bases = at i; combination = v.combination }

  value : IsValue (over (before ++ old ∷ after) v.combination)
  value = subst IsValue same is

  -- the new basis makes it no longer
  short : length (before ++ new ∷ after) ≤ 3
  short = omega (arith, value.short, length-append before (old ∷ after), length-append before (new ∷ after))

  degree-within_limit : degree_of_value (over (before ++ old ∷ after) v.combination) ≤ least_limit (before ++ new ∷ after)
      → degree_of_value (over (before ++ old ∷ after) v.combination) ≤ min (limit_for old) (limit_for new)
  degree-within_limit within =
      let n = degree_of_value (over (before ++ old ∷ after) v.combination) in
      let olds = (within-back n before (old ∷ after) (within_each n (before ++ old ∷ after) (degree_within (over (before ++ old ∷ after) v.combination) value))).0 in
      let news = (within-back n before (new ∷ after) (within_each n (before ++ new ∷ after) within)).0 in
      below_both n (limit_for old) (limit_for new) olds news

  -- a change lifted to a component
  change_lifted : (growth : ℕ) (c : Combination) → IsLift (change_of old new growth) (length before) v.combination c → IsTrue (is_built new)
      → degree_of_value (over (before ++ old ∷ after) v.combination) ≤ least_limit (before ++ new ∷ after) → IsConverted (before ++ new ∷ after) (over (before ++ old ∷ after) v.combination) (over (before ++ new ∷ after) c)
  change_lifted growth c lift built within =
      let facts = change_of old new growth in
      record {
        expands = change_expands before after old new (min (limit_for old) (limit_for new)) growth v.combination c value lift (lifted_value before after facts v.combination value c lift short (built, tt) within);
        less = lifted_degree before after facts v.combination value c lift;
      }

  -- the conversion of a component of a built basis to another one
  pub converted_exists : IsTrue (is_built new) → IsTrue (lies_in (algebra_of old) (algebra_of new)) → old ≢ new → degree_of_value v ≤ least_limit (before ++ new ∷ after) → All Passes (linear_checks v)
      → (w : Expansion) × IsConverted (before ++ new ∷ after) v w
  converted_exists built inside other within room =
      let (growth, answers) = all_changes_exist old new (built-here before after old value.built) built inside other in
      let facts = change_of old new growth in
      let small : degree_of_value (over (before ++ old ∷ after) v.combination) ≤ least_limit (before ++ new ∷ after) = subst (λ x. degree_of_value x ≤ least_limit (before ++ new ∷ after)) same within in
      let (c, lift) = lifts_exist facts answers (length before) v.combination is.canonical
      (can_lift before after facts v.combination value short (degree-within_limit small) (subst (λ x. All Passes (linear_checks x)) same room)) in (
        over (before ++ new ∷ after) c,
        subst (λ x. IsConverted (before ++ new ∷ after) x (over (before ++ new ∷ after) c)) (sym same) (change_lifted growth c lift built small),
      )

  -- a component is brought to a basis, after checks that give room
  pub brought_some : (checks : List Check) (n : ℕ) → length before ≡ n → All IsCheck checks
      → (All Passes checks → IsTrue (is_built new) × IsTrue (lies_in (algebra_of old) (algebra_of new)) × (degree_of_value v ≤ least_limit (before ++ new ∷ after)) × All Passes (linear_checks v))
      → ComesTo (BroughtTo checks n new v) (NotAbove v)
  brought_some checks n long are leads =
      let here : get_or v.bases n new ≡ old = ap (λ bs. get_or bs n new) at ∙ get_or-at n before after old new long in
      let bases : replaced n (new ∷ []) v.bases ≡ before ++ new ∷ after = ap (λ bs. replaced n (new ∷ []) bs) at ∙ replaced-at n before (new ∷ []) after old long in
      elim (same_basis_decided old new) [
        | inl equal ↦ comes_to_value (BroughtTo checks n new v) (NotAbove v) v (inl (here ∙ equal, refl)) (omega arith)
        | inr other ↦
            let Last = Answers (replaced n (new ∷ []) v.bases) (reading_of v) in
            let changed = checked_some checks Last (NotAbove v) are
            (λ pass.
            let lead = leads pass in
            let w = converted_exists lead.0 lead.1 other lead.2 lead.3 in
            answers_some (replaced n (new ∷ []) v.bases) (reading_of v) (NotAbove v) w.0 (subst (λ bs. Expands bs (reading_of v) w.0) (sym bases) w.1.expands) w.1.less) in
            record { answer = changed.answer; allowed = inr (λ equal. other (sym here ∙ equal), changed.allowed); holds = changed.holds }
      ]

-- the linear rule of a value can be tested
pub linear_checks_are : (v : Expansion) → IsValue v → All IsCheck (linear_checks v)
linear_checks_are v is = All-cons IsCheck (Room (Linear (norm_of v.combination.terms) (5 * degree_of_value v))) [] (omega (arith, degree-small v is)) (All-nil IsCheck)

-- the conversion of one component on the way of an operation
pub converts_at_some : (n : ℕ) (new : BasisId) (v : Expansion) (before after : List BasisId) (old : BasisId) → IsValue v → v.bases ≡ before ++ old ∷ after → length before ≡ n
    → IsTrue (is_built new) → IsTrue (lies_in (algebra_of old) (algebra_of new)) → degree_of_value v ≤ limit_of (algebra_of new) → ComesTo (ConvertsAt n new v) (NotAbove v)
converts_at_some n new v before after old is over long built inside small =
    let within : degree_of_value v ≤ least_limit (before ++ new ∷ after) =
    within_replaced (degree_of_value v) before after old new (subst (λ bs. degree_of_value v ≤ least_limit bs) over (degree_within v is)) small in
    brought_some before after old new v is over (linear_checks v) n long (linear_checks_are v is) (λ pass. (built, inside, within, pass))

-- the conversions of the components from n on
pub converts_from_some : (n : ℕ) (news before olds : List BasisId) (v : Expansion) → IsValue v → v.bases ≡ before ++ olds → length before ≡ n → LieIn olds news → AreBuilt news
    → IsWithin (degree_of_value v) news → ComesTo (ConvertsFrom n news v) (NotAbove v)
converts_from_some n [] before olds v is over long lie built within = comes_to_value (ConvertsFrom n [] v) (NotAbove v) v refl (omega arith)
converts_from_some n (new ∷ news) before [] v is over long lie built within = absurd lie
converts_from_some n (new ∷ news) before (old ∷ olds) v is over long lie built within =
    then_some (ConvertsAt n new v) (ConvertsFrom (n + 1) news) (NotAbove v) (NotAbove v)
    (converts_at_some n new v before olds old is over long built.0 lie.0 within.0)
    (λ w step less.
    let h = brought_expands (linear_checks v) n new v w before olds old is over long step in
    let rest = converts_from_some (n + 1) news (before ++ new ∷ []) olds w h.value (h.over ∙ sym (append_assoc before (new ∷ []) olds))
    (omega (arith, long, length-append before (new ∷ []))) lie.1 built.1 (within_less (degree_of_value v) (degree_of_value w) news less within.1) in
    record { answer = rest.answer; allowed = rest.allowed; holds = λ x is'. let le = rest.holds x is' in omega (arith, le, less) })

-- the conversions of a value
pub converts_some : (targets : List BasisId) (v : Expansion) → IsValue v → LieIn v.bases targets → AreBuilt targets → degree_of_value v ≤ least_limit targets
    → ComesTo (Converts targets v) (NotAbove v)
converts_some targets v is lie built within = converts_from_some 0 targets [] v.bases v is refl refl lie built (within_each (degree_of_value v) targets within)

-- the conversions of two values, before a rest that comes to an answer with what they become
pub both_convert_some : (targets : List BasisId) (a b : Expansion) (Rest : Expansion → Expansion → Row) (P : Expansion → Type 0) → IsValue a → IsValue b
    → LieIn a.bases targets → LieIn b.bases targets → AreBuilt targets
    → degree_of_value a ≤ least_limit targets → degree_of_value b ≤ least_limit targets
    → ((x y : Expansion) → IsConverted targets a x → IsConverted targets b y → ComesTo (Rest x y) P) → ComesTo (BothConvert targets a b Rest) P
both_convert_some targets a b Rest P ha hb la lb built da db rest =
    then_some (Converts targets a) (λ (x : Expansion). Then (Converts targets b) (Rest x)) (NotAbove a) P (converts_some targets a ha la built da)
    (λ x hx lx. then_some (Converts targets b) (Rest x) (NotAbove b) P (converts_some targets b hb lb built db)
    (λ y hy ly. rest x y (record { expands = converts_expands targets a x ha (lies_kinds a.bases targets la) hx; less = lx }) (record { expands = converts_expands targets b y hb (lies_kinds b.bases targets lb) hy; less = ly })))
