-- The row of the product of two neighbours in steps: the bases that both are brought to, and the product of what they came to.
use Rattle.std.proofs.Common.{◌≡◌, ℕ, zero, suc, ◌+◌, ◌-◌, ◌<◌, ◌≤◌, IsTrue, List, [], ◌∷◌, ◌++◌, map, length, get_or, slice_index_or, Ok, Err, inl, inr, refl, sym, ◌∙◌, ap, subst, arith, append_assoc}
use Rattle.std.specs.Prelude.{IfOk, unwrap_or}
use Rattle.std.proofs.lemmas.List.{length-append}
use Rattle.std.proofs.lemmas.List.Elements.{All-cons, All-nil}
use Rattle.std.proofs.lemmas.Result.{IfOk-weaker}
use Rattle.basis_names.specs.declared.bases.BasisId.{BasisId}
use Rattle.built_bases.specs.Table.{is_built}
use Rattle.realisations.specs.Bases.{kind_of}
use Rattle.realisations.specs.Laws.{IsDoubled}
use Rattle.realisations.specs.Points.{Kind, ArePoints}
use Rattle.realisations.specs.Readings.{applied, mult, kinds_after_at}
use Rattle.hopf_laws.specs.Bases.{AreBuilt, least_limit}
use Rattle.hopf_laws.specs.Values.{Expansion, Expands, reading_of, degree_of_value}
use Rattle.basis_routes.specs.declared.checks.Check.{Check}
use Rattle.basis_routes.specs.declared.checks.Check.TheVariants.{Joined, DegreeWithin}
use Rattle.basis_routes.specs.declared.refusal.Refusal.{Refusal}
use Rattle.basis_routes.specs.Checks.{Passes, IsRefusalOf, Tests}
use Rattle.basis_routes.specs.Conversions.{linear_checks, ConvertsAt, ConvertsFrom, Converts}
use Rattle.basis_routes.specs.Joins.{LieIn}
use Rattle.basis_routes.specs.JoinTable.{join_of}
use Rattle.basis_routes.specs.Lists.{doubled, without, replaced}
use Rattle.basis_routes.specs.Rows.{Answer, Row, Checked, Then, Answers, OrMemory}
use Rattle.basis_routes.proofs.BasesAround.{doubled-around, IsWithin, within_each, within_least}
use Rattle.basis_routes.proofs.ContainedBases.{lies_kinds}
use Rattle.basis_routes.proofs.ConvertedRows.{brought_expands, converts_expands}
use Rattle.basis_routes.proofs.ReplacedBases.{get_or-at, replaced-at}
use Rattle.basis_routes.proofs.ValueRows.{same_value, value_is_no_refusal}
use Rattle.hopf_ops.specs.Answers.{AreJoined}
use Rattle.hopf_ops.specs.Operations.{NeighbourProduct, MultAt}
use Rattle.hopf_ops.proofs.AppliedReadings.{applied_agrees}
use Rattle.hopf_ops.proofs.BuiltJoins.{joined_built}
use Rattle.hopf_ops.proofs.ConvertedOperands.{expands_agreeing}
use Rattle.hopf_ops.proofs.Neighbours.{doubled_kinds, inside-join, kinds-mult, lies_doubled}
use Rattle.hopf_ops.proofs.RowsInSteps.{step_passes, step_refuses, tests_row}

-- two neighbours in a list: the bases before and after them
pub record HasNeighbours (n : ℕ) (bases : List BasisId) (left right : BasisId) : Type 0 where
  pub before : List BasisId
  pub after : List BasisId
  pub is : bases ≡ before ++ left ∷ right ∷ after
  pub long : length before ≡ n

-- at each place that has a next one there are some
some_neighbours : (n : ℕ) (bases : List BasisId) → n + 1 < length bases → (left : BasisId) × (right : BasisId) × HasNeighbours n bases left right
some_neighbours n [] within = absurd (omega (arith, within))
some_neighbours n (b ∷ []) within = absurd (omega (arith, within))
some_neighbours zero (b ∷ c ∷ bases) within = (b, c, record { before = []; after = bases; is = refl; long = refl })
some_neighbours (suc n) (b ∷ c ∷ bases) within =
    let (left, right, rest) = some_neighbours n (c ∷ bases) (omega (arith, within)) in
    (left, right, record { before = b ∷ rest.before; after = rest.after; is = ap (λ bs. b ∷ bs) rest.is; long = omega (arith, rest.long) })

-- the second of them, read at the next place
right-at : (n : ℕ) (before after : List BasisId) (left right d : BasisId) → length before ≡ n → get_or (before ++ left ∷ right ∷ after) (suc n) d ≡ right
right-at zero [] after left right d long = refl
right-at (suc n) [] after left right d long = absurd (omega (arith, long))
right-at zero (b ∷ before) after left right d long = absurd (omega (arith, long))
right-at (suc n) (b ∷ before) after left right d long = right-at n before after left right d (omega (arith, long))

-- so the bases that are read at both places are neighbours
pub neighbours_read : (bases : List BasisId) (component : ℕ) (left right : BasisId) → 1 ≤ component → component + 1 ≤ length bases → left ≡ slice_index_or bases (component - 1) left
    → right ≡ slice_index_or bases (component + 1 - 1) right → HasNeighbours (component - 1) bases left right
neighbours_read bases component left right first last read_left read_right =
    let n = component - 1 in
    let (x, y, h) = some_neighbours n bases (omega (arith, first, last)) in
    let next : component + 1 - 1 ≡ suc n = omega (arith, first) in
    let is_left : left ≡ x = read_left ∙ ap (λ bs. get_or bs n left) h.is ∙ get_or-at n h.before (y ∷ h.after) x left h.long in
    let is_right : right ≡ y = read_right ∙ (λ i. get_or (h.is i) (next i) right) ∙ right-at n h.before h.after x y right h.long in
    record { before = h.before; after = h.after; is = h.is ∙ (λ i. h.before ++ sym is_left i ∷ sym is_right i ∷ h.after); long = h.long }

-- without the second of them
without-right : (n : ℕ) (before after : List BasisId) (left right : BasisId) → length before ≡ n → without (suc n) (before ++ left ∷ right ∷ after) ≡ before ++ left ∷ after
without-right zero [] after left right long = refl
without-right (suc n) [] after left right long = absurd (omega (arith, long))
without-right zero (b ∷ before) after left right long = absurd (omega (arith, long))
without-right (suc n) (b ∷ before) after left right long = ap (λ bs. b ∷ bs) (without-right n before after left right (omega (arith, long)))

-- one of them twice
doubled-at : (n : ℕ) (before after : List BasisId) (basis : BasisId) → length before ≡ n → doubled n (before ++ basis ∷ after) ≡ before ++ basis ∷ basis ∷ after
doubled-at n before after basis long = ap (λ k. doubled k (before ++ basis ∷ after)) (sym long) ∙ doubled-around before after basis

-- a degree within the limits of bases is within them where one stands twice
within_doubled : (degree : ℕ) (before after : List BasisId) (basis : BasisId) → IsWithin degree (before ++ basis ∷ after) → IsWithin degree (before ++ basis ∷ basis ∷ after)
within_doubled degree [] after basis each = (each.0, each)
within_doubled degree (b ∷ before) after basis each = (each.0, within_doubled degree before after basis each.1)

limit_doubled : (degree : ℕ) (before after : List BasisId) (basis : BasisId) → degree ≤ least_limit (before ++ basis ∷ after) → degree ≤ least_limit (before ++ basis ∷ basis ∷ after)
limit_doubled degree before after basis within =
    within_least degree (before ++ basis ∷ basis ∷ after) (omega (arith, length-append before (basis ∷ basis ∷ after))) (within_doubled degree before after basis (within_each degree (before ++ basis ∷ after) within))

-- built bases with others that are built in the place of the two
built_behind : (before xs ys : List BasisId) → AreBuilt (before ++ xs) → AreBuilt ys → AreBuilt (before ++ ys)
built_behind [] xs ys built others = others
built_behind (b ∷ before) xs ys built others = (built.0, built_behind before xs ys built.1 others)

built_after : (before xs : List BasisId) → AreBuilt (before ++ xs) → AreBuilt xs
built_after [] xs built = built
built_after (b ∷ before) xs built = built_after before xs built.1

-- components that have their bases stay as they are
converts_before : (n m : ℕ) (front stay olds news : List BasisId) (v : Expansion) (answer : Answer) → v.bases ≡ front ++ (stay ++ olds) → length front ≡ n → n + length stay ≡ m
    → ConvertsFrom n (stay ++ news) v answer → ConvertsFrom m news v answer
converts_before n m front [] olds news v answer over long at h = subst (λ (k : ℕ). ConvertsFrom k news v answer) (let same : n ≡ m = omega (arith, at) in same) h
converts_before n m front (b ∷ stay) olds news v answer over long at (inl (x, inl (same, here), later)) =
    converts_before (n + 1) m (front ++ b ∷ []) stay olds news v answer (over ∙ sym (append_assoc front (b ∷ []) (stay ++ olds))) (omega (arith, length-append front (b ∷ []), long)) (omega (arith, at))
    (subst (λ (w : Expansion). ConvertsFrom (n + 1) (stay ++ news) w answer) (same_value x v here) later)
converts_before n m front (b ∷ stay) olds news v answer over long at (inl (x, inr (other, row), later)) =
    absurd (other (ap (λ bs. get_or bs n b) over ∙ get_or-at n front (stay ++ olds) b b long))
converts_before n m front (b ∷ stay) olds news v answer over long at (inr (r, inl (same, here), is)) = absurd (value_is_no_refusal v r (sym here))
converts_before n m front (b ∷ stay) olds news v answer over long at (inr (r, inr (other, row), is)) =
    absurd (other (ap (λ bs. get_or bs n b) over ∙ get_or-at n front (stay ++ olds) b b long))

-- so do those that are left
converts_behind : (n : ℕ) (front stay : List BasisId) (v : Expansion) (answer : Answer) → v.bases ≡ front ++ stay → length front ≡ n → ConvertsFrom n stay v answer → answer ≡ Ok v
converts_behind n front [] v answer over long h = h
converts_behind n front (b ∷ stay) v answer over long (inl (x, inl (same, here), later)) =
    converts_behind (n + 1) (front ++ b ∷ []) stay v answer (over ∙ sym (append_assoc front (b ∷ []) stay)) (omega (arith, length-append front (b ∷ []), long))
    (subst (λ (w : Expansion). ConvertsFrom (n + 1) stay w answer) (same_value x v here) later)
converts_behind n front (b ∷ stay) v answer over long (inl (x, inr (other, row), later)) = absurd (other (ap (λ bs. get_or bs n b) over ∙ get_or-at n front stay b b long))
converts_behind n front (b ∷ stay) v answer over long (inr (r, inl (same, here), is)) = absurd (value_is_no_refusal v r (sym here))
converts_behind n front (b ∷ stay) v answer over long (inr (r, inr (other, row), is)) = absurd (other (ap (λ bs. get_or bs n b) over ∙ get_or-at n front stay b b long))

-- the join in the place of both
pub join_made : (component : ℕ) (given kept made : List BasisId) (left right join : BasisId) (h : HasNeighbours (component - 1) given left right) → 1 ≤ component
    → kept ≡ without (component + 1 - 1) given → made ≡ replaced (component - 1) (join ∷ []) kept → made ≡ h.before ++ join ∷ h.after
join_made component given kept made left right join h first is_kept is_made =
    let n = component - 1 in
    let next : component + 1 - 1 ≡ suc n = omega (arith, first) in
    let front : kept ≡ h.before ++ left ∷ h.after = is_kept ∙ (λ i. without (next i) (h.is i)) ∙ without-right n h.before h.after left right h.long in
    is_made ∙ ap (λ bs. replaced n (join ∷ []) bs) front ∙ replaced-at n h.before (join ∷ []) h.after left h.long

-- the checks of two neighbours
abbrev pub neighbour_pair : (a : Expansion) (n : ℕ) (left right : BasisId) → HasNeighbours n a.bases left right → List Check
neighbour_pair a n left right h = Joined left right ∷ DegreeWithin (degree_of_value a) (least_limit (h.before ++ unwrap_or (join_of left right) left ∷ h.after)) ∷ []

-- they refuse
pub neighbours_refused : (a : Expansion) (n : ℕ) (left right : BasisId) (h : HasNeighbours n a.bases left right) (r : Refusal) → IsRefusalOf (neighbour_pair a n left right h) r → OrMemory (MultAt n a) (Err r)
neighbours_refused a n left right h r (inl memory) = let err : Refusal → Answer = λ x. Err x in inl (ap err memory)
neighbours_refused a n left right h r (inr failing) = inr (h.before, left, right, h.after, h.is, h.long, inr (r, failing, refl))

same_refusal : (r q : Refusal) (err : Answer) → err ≡ Err r → err ≡ Err q → r ≡ q
same_refusal r q err is is' = cc

module _ (bases : List BasisId) (n : ℕ) (a : Expansion) (j : AreJoined bases n a) where
  abbrev join : BasisId
  join = unwrap_or (join_of j.left j.right) j.left

  -- what comes behind both conversions
  abbrev Last : Expansion → Row
  Last y = Checked (linear_checks y) (Answers (j.before ++ join ∷ j.after) (applied mult (length j.before) (reading_of a)))

  -- and behind the first
  abbrev Second : Expansion → Row
  Second x = Then (ConvertsAt (length j.before + 1) join x) Last

  -- the bases that both are brought to
  both_is : doubled n bases ≡ j.before ++ join ∷ join ∷ j.after
  both_is = ap (λ bs. doubled n bs) j.over ∙ doubled-at n j.before j.after join j.long

  -- the value's lie in them
  pub both_inside : LieIn a.bases (doubled n bases)
  both_inside =
      let inside = inside-join j.left j.right j.join in
      subst (λ bs. LieIn bs (doubled n bases)) (sym j.is)
      (subst (λ bs. LieIn (j.before ++ j.left ∷ j.right ∷ j.after) bs) (sym both_is) (lies_doubled j.before j.after j.left j.right join inside.0 inside.1))

  -- they are of the same kinds
  both_kinds : map kind_of (doubled n bases) ≡ map kind_of a.bases
  both_kinds = lies_kinds a.bases (doubled n bases) both_inside

  -- built
  pub both_built : AreBuilt (doubled n bases)
  both_built =
      let all : AreBuilt (j.before ++ j.left ∷ j.right ∷ j.after) = subst (λ bs. AreBuilt bs) j.is j.value.built in
      let rest = built_after j.before (j.left ∷ j.right ∷ j.after) all in
      let of_join : IsTrue (is_built join) = (joined_built (j.left ∷ []) (j.right ∷ []) (rest.0, tt) (rest.1.0, tt) refl).0 in
      subst (λ bs. AreBuilt bs) (sym both_is) (built_behind j.before (j.left ∷ j.right ∷ j.after) (join ∷ join ∷ j.after) all (of_join, (of_join, rest.1.1)))

  -- and the degree is within their limit
  pub both_within : degree_of_value a ≤ least_limit (doubled n bases)
  both_within =
      subst (λ bs. degree_of_value a ≤ least_limit bs) (sym both_is)
      (limit_doubled (degree_of_value a) j.before j.after join (subst (λ bs. degree_of_value a ≤ least_limit bs) j.over j.within))

  -- only two components are converted
  in_two : (answer : Answer) → Converts (doubled n bases) a answer → ConvertsFrom n (join ∷ join ∷ j.after) a answer
  in_two answer h =
      converts_before 0 n [] j.before (j.left ∷ j.right ∷ j.after) (join ∷ join ∷ j.after) a answer j.is refl (omega (arith, j.long))
      (subst (λ bs. ConvertsFrom 0 bs a answer) both_is h)

  -- what both conversions came to, whose later components stay
  left_over : (x z : Expansion) → ConvertsAt n join a (Ok x) → ConvertsAt (n + 1) join x (Ok z) → (answer : Answer) → ConvertsFrom (n + 1 + 1) j.after z answer → answer ≡ Ok z
  left_over x z first second answer later =
      let hx = brought_expands (linear_checks a) n join a x j.before (j.right ∷ j.after) j.left j.value j.is j.long first in
      let hz = brought_expands (linear_checks x) (n + 1) join x z (j.before ++ join ∷ []) j.after j.right hx.value (hx.over ∙ sym (append_assoc j.before (join ∷ []) (j.right ∷ j.after)))
      (omega (arith, length-append j.before (join ∷ []), j.long)) second in
      converts_behind (n + 1 + 1) ((j.before ++ join ∷ []) ++ join ∷ []) j.after z answer (hz.over ∙ sym (append_assoc (j.before ++ join ∷ []) (join ∷ []) j.after))
      (omega (arith, length-append (j.before ++ join ∷ []) (join ∷ []), length-append j.before (join ∷ []), j.long)) later

  -- the first conversion as the row has it, and the second
  first_at : (answer : Answer) → ConvertsAt n join a answer → ConvertsAt (length j.before) join a answer
  first_at answer h = subst (λ (k : ℕ). ConvertsAt k join a answer) (sym j.long) h

  second_at : (x : Expansion) (answer : Answer) → ConvertsAt (n + 1) join x answer → ConvertsAt (length j.before + 1) join x answer
  second_at x answer h = subst (λ (k : ℕ). ConvertsAt (k + 1) join x answer) (sym j.long) h

  -- the rest of the row, once its checks pass
  at_row : (answer : Answer) → OrMemory (NeighbourProduct j.before j.after join a) answer → OrMemory (MultAt n a) answer
  at_row answer (inl memory) = inl memory
  at_row answer (inr row) =
      let within = DegreeWithin (degree_of_value a) (least_limit (j.before ++ join ∷ j.after)) in
      let small : Passes within = subst (λ bs. degree_of_value a ≤ least_limit bs) j.over j.within in
      inr (j.before, j.left, j.right, j.after, j.is, j.long, inl (All-cons Passes (Joined j.left j.right) (within ∷ []) j.join (All-cons Passes within [] small (All-nil Passes)), row))

  -- a conversion refuses
  pub neighbours_not_converted : (r : Refusal) → OrMemory (Converts (doubled n bases) a) (Err r) → OrMemory (MultAt n a) (Err r)
  neighbours_not_converted r (inl memory) = inl memory
  neighbours_not_converted r (inr h) = at_row (Err r) (refused (in_two (Err r) h))
    where
      refused : ConvertsFrom n (join ∷ join ∷ j.after) a (Err r) → OrMemory (NeighbourProduct j.before j.after join a) (Err r)
      refused (inl (x, first, inl (z, second, later))) = absurd (value_is_no_refusal z r (sym (left_over x z first second (Err r) later)))
      refused (inl (x, first, inr (q, second, is))) =
          step_passes (ConvertsAt (length j.before) join a) Second x (Err r) (first_at (Ok x) first)
          (subst (λ (p : Refusal). OrMemory (Second x) (Err p)) (sym (same_refusal r q (Err r) refl is)) (step_refuses (ConvertsAt (length j.before + 1) join x) Last q (inr (second_at x (Err q) second))))
      refused (inr (q, first, is)) =
          subst (λ (p : Refusal). OrMemory (NeighbourProduct j.before j.after join a) (Err p)) (sym (same_refusal r q (Err r) refl is))
          (step_refuses (ConvertsAt (length j.before) join a) Second q (inr (first_at (Err q) first)))

  module _ (y : Expansion) (h : Converts (doubled n bases) a (Ok y)) where
    converted : Expands (doubled n bases) (reading_of a) y
    converted = converts_expands (doubled n bases) a y j.value both_kinds h

    over_both : y.bases ≡ j.before ++ join ∷ join ∷ j.after
    over_both = converted.over ∙ both_is

    left_bases : without (suc n) y.bases ≡ j.before ++ join ∷ j.after
    left_bases = ap (λ bs. without (suc n) bs) over_both ∙ without-right n j.before j.after join join j.long

    -- what they came to has one basis twice
    pub over_twice : y.bases ≡ doubled n (without (suc n) y.bases)
    over_twice = over_both ∙ sym (doubled-at n j.before j.after join j.long) ∙ ap (λ bs. doubled n bs) (sym left_bases)

    pub both_there : n + 2 ≤ length y.bases
    both_there = omega (arith, ap (λ (bs : List BasisId). length bs) over_both, length-append j.before (join ∷ join ∷ j.after), j.long)

    -- their product is that of the components of the operand
    product_converted : (v : Expansion) → Expands (without (suc n) y.bases) (applied mult n (reading_of y)) v → Expands (j.before ++ join ∷ j.after) (applied mult (length j.before) (reading_of a)) v
    product_converted v e =
        let kinds : map kind_of y.bases ≡ map kind_of a.bases = ap (λ bs. map kind_of bs) converted.over ∙ both_kinds in
        let same_kinds : map kind_of y.bases ≡ map kind_of (doubled n bases) = ap (λ bs. map kind_of bs) converted.over in
        let to_y : map kind_of (j.before ++ join ∷ j.after) ≡ kinds_after_at n mult (map kind_of y.bases) =
        kinds-mult j.before j.after join join join refl ∙ ap (λ (k : ℕ). kinds_after_at k mult (map kind_of (j.before ++ join ∷ join ∷ j.after))) j.long
        ∙ ap (λ bs. kinds_after_at n mult (map kind_of bs)) (sym over_both) in
        let twice : IsDoubled n (map kind_of y.bases) = subst (λ bs. IsDoubled n (map kind_of bs)) (sym over_both) (subst (λ (k : ℕ). IsDoubled k (map kind_of (j.before ++ join ∷ join ∷ j.after))) j.long (doubled_kinds j.before j.after join)) in
        subst (λ (m : ℕ). Expands (j.before ++ join ∷ j.after) (applied mult m (reading_of a)) v) (sym j.long)
        (expands_agreeing (j.before ++ join ∷ j.after) (applied mult n (reading_of y)) (applied mult n (reading_of a)) v converted.value.canonical.lowest.positive
        (λ ps points.
        applied_agrees mult n (reading_of y) (reading_of a) ps (λ is. twice) kinds (subst (λ (ks : List Kind). ArePoints ks ps) to_y points)
        (λ qs here. converted.reads qs (subst (λ (ks : List Kind). ArePoints ks qs) same_kinds here)))
        (subst (λ bs. Expands bs (applied mult n (reading_of y)) v) left_bases e))

    -- both are converted, and then comes their product
    pub neighbours_product : (answer : Answer) → Tests (linear_checks y) answer → IfOk answer (Expands (without (suc n) y.bases) (applied mult n (reading_of y))) → OrMemory (MultAt n a) answer
    neighbours_product answer tests value = at_row answer (from (in_two (Ok y) h))
      where
        rest : OrMemory (Last y) answer
        rest =
            tests_row (linear_checks y) (j.before ++ join ∷ j.after) (applied mult (length j.before) (reading_of a)) answer tests
            (IfOk-weaker answer (Expands (without (suc n) y.bases) (applied mult n (reading_of y))) (Expands (j.before ++ join ∷ j.after) (applied mult (length j.before) (reading_of a))) product_converted value)

        from : ConvertsFrom n (join ∷ join ∷ j.after) a (Ok y) → OrMemory (NeighbourProduct j.before j.after join a) answer
        from (inl (x, first, inl (z, second, later))) =
            let same : y ≡ z = same_value y z (left_over x z first second (Ok y) later) in
            step_passes (ConvertsAt (length j.before) join a) Second x answer (first_at (Ok x) first)
            (step_passes (ConvertsAt (length j.before + 1) join x) Last y answer (subst (λ (w : Expansion). ConvertsAt (length j.before + 1) join x (Ok w)) (sym same) (second_at x (Ok z) second)) rest)
        from (inl (x, first, inr (r, second, is))) = absurd (value_is_no_refusal y r is)
        from (inr (r, first, is)) = absurd (value_is_no_refusal y r is)
