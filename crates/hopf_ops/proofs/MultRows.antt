-- The row of a product of two components allows exactly one answer, whose value reads as the product.
use Rattle.std.proofs.Common.{◌≡◌, ℕ, zero, suc, ◌+◌, ◌-◌, ◌<◌, ◌≤◌, IsTrue, List, [], ◌∷◌, ◌++◌, length, map, Ok, refl, sym, ◌∙◌, ap, subst, arith, append_assoc}
use Rattle.std.specs.Prelude.{All, unwrap_or}
use Rattle.std.proofs.lemmas.List.{length-append}
use Rattle.std.proofs.lemmas.List.Elements.{All-cons, All-nil, All-head, All-tail}
use Rattle.basis_names.specs.declared.bases.BasisId.{BasisId}
use Rattle.basis_names.specs.Bases.{algebra_of, limit_of}
use Rattle.built_bases.specs.Table.{is_built}
use Rattle.realisations.specs.Bases.{kind_of, lies_in}
use Rattle.realisations.specs.Laws.{IsDoubled}
use Rattle.realisations.specs.Points.{Points, ArePoints}
use Rattle.realisations.specs.Readings.{applied, mult, kinds_after_at, AgreeAt}
use Rattle.realisations.proofs.Agreement.{agree_trans}
use Rattle.hopf_laws.specs.Bases.{AreBuilt, least_limit}
use Rattle.hopf_laws.specs.Values.{Expansion, IsValue, Expands, reading_of, degree_of_value}
use Rattle.basis_routes.specs.declared.checks.Check.{Check}
use Rattle.basis_routes.specs.declared.checks.Check.TheVariants.{SameRank, HasComponent, Joined, DegreeWithin}
use Rattle.basis_routes.specs.declared.place.Place.{Place}
use Rattle.basis_routes.specs.declared.place.Place.TheVariants.{Only, At}
use Rattle.basis_routes.specs.Checks.{Passes, IsCheck}
use Rattle.basis_routes.specs.Conversions.{linear_checks, ConvertsAt}
use Rattle.basis_routes.specs.JoinTable.{join_of}
use Rattle.basis_routes.specs.Places.{position_of, neighbour_checks}
use Rattle.basis_routes.specs.Rows.{Answer, Row, Checked, Then, Answers}
use Rattle.basis_routes.proofs.BasesAround.{built-back, built-here, within_each, within-back}
use Rattle.basis_routes.proofs.ComponentsExist.{product_exists}
use Rattle.basis_routes.proofs.ContainedBases.{lies_kind}
use Rattle.basis_routes.proofs.ConversionsExist.{linear_checks_are, converts_at_some, NotAbove}
use Rattle.basis_routes.proofs.ConvertedRows.{brought_expands, expands_trans}
use Rattle.basis_routes.proofs.OnceRows.{IsOnce, checked_once, then_once, brought_once, answers_once}
use Rattle.basis_routes.proofs.ReplacedBases.{kinds-replaced}
use Rattle.basis_routes.proofs.SomeRows.{Any, checked_some, then_some, answers_some}
use Rattle.basis_routes.proofs.ValueRows.{brought_value, checked_value, then_value, answers_value}
use Rattle.hopf_ops.specs.Laws.{MultLaw}
use Rattle.hopf_ops.specs.Operations.{NeighbourProduct, MultAt, MultRow, mult_bases}
use Rattle.hopf_ops.proofs.ConvertedOperands.{den-positive}
use Rattle.hopf_ops.proofs.AppliedReadings.{applied_agrees}
use Rattle.hopf_ops.proofs.BuiltJoins.{joined_built}
use Rattle.hopf_ops.proofs.Neighbours.{doubled_kinds, inside-join, kinds-mult}

-- two neighbours in a list, and the bases before and after them
record Neighbours : Type 0 where
  before : List BasisId
  left : BasisId
  right : BasisId
  after : List BasisId

-- they are those at a place
record AreAt (n : ℕ) (bases : List BasisId) (p : Neighbours) : Type 0 where
  is : bases ≡ p.before ++ p.left ∷ p.right ∷ p.after
  long : length p.before ≡ n

-- there are such
neighbours_at : (n : ℕ) (bases : List BasisId) → n + 1 < length bases → (p : Neighbours) × AreAt n bases p
neighbours_at n [] lt = absurd (omega (arith, lt))
neighbours_at n (b ∷ []) lt = absurd (omega (arith, lt))
neighbours_at zero (b ∷ c ∷ bases) lt = (record { before = []; left = b; right = c; after = bases }, record { is = refl; long = refl })
neighbours_at (suc n) (b ∷ c ∷ bases) lt =
    let (p, at) = neighbours_at n (c ∷ bases) (omega (arith, lt)) in
    (record { before = b ∷ p.before; left = p.left; right = p.right; after = p.after }, record { is = ap (λ bs. b ∷ bs) at.is; long = omega (arith, at.long) })

abbrev neighbours : List BasisId → BasisId → BasisId → List BasisId → Neighbours
neighbours f x y l = record { before = f; left = x; right = y; after = l }

-- and no others
same_neighbours : (f l : List BasisId) (x y : BasisId) (f' l' : List BasisId) (x' y' : BasisId) → length f ≡ length f' → f ++ x ∷ y ∷ l ≡ f' ++ x' ∷ y' ∷ l'
    → neighbours f x y l ≡ neighbours f' x' y' l'
same_neighbours [] l x y [] l' x' y' long same =
    let ex : x ≡ x' = cc in
    let ey : y ≡ y' = cc in
    let el : l ≡ l' = cc in
    λ i. record { before = []; left = ex i; right = ey i; after = el i }
same_neighbours [] l x y (b ∷ f') l' x' y' long same = absurd (omega (arith, long))
same_neighbours (b ∷ f) l x y [] l' x' y' long same = absurd (omega (arith, long))
same_neighbours (b ∷ f) l x y (b' ∷ f') l' x' y' long same =
    let eb : b ≡ b' = cc in
    let rest : f ++ x ∷ y ∷ l ≡ f' ++ x' ∷ y' ∷ l' = cc in
    let ps = same_neighbours f l x y f' l' x' y' (omega (arith, long)) rest in
    λ i. record { before = eb i ∷ (ps i).before; left = (ps i).left; right = (ps i).right; after = (ps i).after }

-- the basis of their product
abbrev join_at : Neighbours → BasisId
join_at p = unwrap_or (join_of p.left p.right) p.left

-- the bases of the answer
abbrev left_over : Neighbours → List BasisId
left_over p = p.before ++ join_at p ∷ p.after

mult_bases-at : (f l : List BasisId) (x y : BasisId) → mult_bases (length f) (f ++ x ∷ y ∷ l) ≡ f ++ unwrap_or (join_of x y) x ∷ l
mult_bases-at [] l x y = refl
mult_bases-at (b ∷ f) l x y = ap (λ bs. b ∷ bs) (mult_bases-at f l x y)

-- both lie in the algebra of the join, and so are of its kind
record AreJoined (p : Neighbours) : Type 0 where
  left_inside : IsTrue (lies_in (algebra_of p.left) (algebra_of (join_at p)))
  right_inside : IsTrue (lies_in (algebra_of p.right) (algebra_of (join_at p)))
  left_kind : kind_of p.left ≡ kind_of (join_at p)
  right_kind : kind_of p.right ≡ kind_of (join_at p)

are_joined : (p : Neighbours) → Passes (Joined p.left p.right) → AreJoined p
are_joined p pass =
    let inside = inside-join p.left p.right pass in
    record {
      left_inside = inside.0;
      right_inside = inside.1;
      left_kind = lies_kind p.left (join_at p) inside.0;
      right_kind = lies_kind p.right (join_at p) inside.1;
    }

-- the checks of two neighbours: they have a join, and the degree is within the limits
abbrev pair_checks : Expansion → Neighbours → List Check
pair_checks a p = Joined p.left p.right ∷ DegreeWithin (degree_of_value a) (least_limit (left_over p)) ∷ []

-- the row of two neighbours
abbrev PairRow : Expansion → Neighbours → Row
PairRow a p = Checked (pair_checks a p) (NeighbourProduct p.before p.after (join_at p) a)

module _ (a : Expansion) (ha : IsValue a) (p : Neighbours) where
  abbrev n : ℕ
  n = length p.before

  -- what comes behind both conversions
  abbrev Last : Expansion → Row
  Last y = Checked (linear_checks y) (Answers (left_over p) (applied mult n (reading_of a)))

  -- and behind the first
  abbrev Second : Expansion → Row
  Second x = Then (ConvertsAt (n + 1) (join_at p) x) Last

  last_once : (y : Expansion) → IsOnce (Last y)
  last_once y = checked_once (linear_checks y) (Answers (left_over p) (applied mult n (reading_of a))) (answers_once (left_over p) (applied mult n (reading_of a)) (den-positive a ha))

  pair_once : IsOnce (PairRow a p)
  pair_once =
      checked_once (pair_checks a p) (NeighbourProduct p.before p.after (join_at p) a)
      (then_once (ConvertsAt n (join_at p) a) Second (brought_once (linear_checks a) n (join_at p) a ha)
      (λ x hx. then_once (ConvertsAt (n + 1) (join_at p) x) Last (brought_once (linear_checks x) (n + 1) (join_at p) x (brought_value (linear_checks a) n (join_at p) a x ha hx))
      (λ y hy. last_once y)))

  pair_reads : (v : Expansion) → PairRow a p (Ok v) → All Passes (pair_checks a p) × Expands (left_over p) (applied mult n (reading_of a)) v
  pair_reads v h =
      let (pass, both) = checked_value (pair_checks a p) (NeighbourProduct p.before p.after (join_at p) a) v h in
      let first = then_value (ConvertsAt n (join_at p) a) Second v both in
      let second = then_value (ConvertsAt (n + 1) (join_at p) first.0) Last v first.2 in
      (pass, answers_value (left_over p) (applied mult n (reading_of a)) v (checked_value (linear_checks second.0) (Answers (left_over p) (applied mult n (reading_of a))) v second.2).1)

  -- once both are converted to the join: the value reads as before, and has the join twice
  record AreBrought (y : Expansion) : Type 0 where
    value : IsValue y
    over : y.bases ≡ p.before ++ join_at p ∷ join_at p ∷ p.after
    kinds : map kind_of y.bases ≡ map kind_of a.bases
    reads : (ps : Points) → ArePoints (map kind_of a.bases) ps → AgreeAt (reading_of y) (reading_of a) ps

  module _ (at : a.bases ≡ p.before ++ p.left ∷ p.right ∷ p.after) where
    -- the first is converted
    first_brought : (x : Expansion) → ConvertsAt n (join_at p) a (Ok x) → Expands (p.before ++ join_at p ∷ p.right ∷ p.after) (reading_of a) x
    first_brought x hx = brought_expands (linear_checks a) n (join_at p) a x p.before (p.right ∷ p.after) p.left ha at refl hx

    second_long : length (p.before ++ join_at p ∷ []) ≡ n + 1
    second_long = omega (arith, length-append p.before (join_at p ∷ []))

    second_at : (x : Expansion) → Expands (p.before ++ join_at p ∷ p.right ∷ p.after) (reading_of a) x → x.bases ≡ (p.before ++ join_at p ∷ []) ++ p.right ∷ p.after
    second_at x hx = hx.over ∙ sym (append_assoc p.before (join_at p ∷ []) (p.right ∷ p.after))

    -- and the second
    both_brought : (x y : Expansion) → AreJoined p → Expands (p.before ++ join_at p ∷ p.right ∷ p.after) (reading_of a) x → ConvertsAt (n + 1) (join_at p) x (Ok y) → AreBrought y
    both_brought x y joined hx hy =
        let there = brought_expands (linear_checks x) (n + 1) (join_at p) x y (p.before ++ join_at p ∷ []) p.after p.right hx.value (second_at x hx) second_long hy in
        let bases : (p.before ++ join_at p ∷ []) ++ join_at p ∷ p.after ≡ p.before ++ join_at p ∷ join_at p ∷ p.after = append_assoc p.before (join_at p ∷ []) (join_at p ∷ p.after) in
        let step : Expands (p.before ++ join_at p ∷ join_at p ∷ p.after) (reading_of x) y = subst (λ bs. Expands bs (reading_of x) y) bases there in
        let first_kinds : map kind_of (p.before ++ join_at p ∷ p.right ∷ p.after) ≡ map kind_of a.bases =
        kinds-replaced p.before (p.right ∷ p.after) p.left (join_at p) joined.left_kind ∙ ap (λ bs. map kind_of bs) (sym at) in
        let second_kinds : map kind_of (p.before ++ join_at p ∷ join_at p ∷ p.after) ≡ map kind_of x.bases =
        ap (λ bs. map kind_of bs) (sym bases) ∙ kinds-replaced (p.before ++ join_at p ∷ []) p.after p.right (join_at p) joined.right_kind ∙ ap (λ bs. map kind_of bs) (sym (second_at x hx)) in
        let kinds : map kind_of (p.before ++ join_at p ∷ join_at p ∷ p.after) ≡ map kind_of a.bases = second_kinds ∙ ap (λ bs. map kind_of bs) hx.over ∙ first_kinds in
        let whole = expands_trans (p.before ++ join_at p ∷ join_at p ∷ p.after) (reading_of a) x y second_kinds (subst (λ bs. Expands bs (reading_of a) x) (sym hx.over) hx) step in
        record {
          value = whole.value;
          over = whole.over;
          kinds = ap (λ bs. map kind_of bs) whole.over ∙ kinds;
          reads = λ ps points. whole.reads ps (subst (λ ks. ArePoints ks ps) (sym kinds) points);
        }

    -- the product of what they came to is the product
    product_of_brought : (y : Expansion) → AreJoined p → AreBrought y → All Passes (linear_checks y) → (w : Expansion) × Expands (left_over p) (applied mult n (reading_of a)) w
    product_of_brought y joined brought room =
        let (w, h) = product_exists p.before p.after (join_at p) y brought.value brought.over room in
        let to_y : map kind_of (left_over p) ≡ kinds_after_at n mult (map kind_of y.bases) =
        kinds-mult p.before p.after (join_at p) (join_at p) (join_at p) refl ∙ ap (λ bs. kinds_after_at n mult (map kind_of bs)) (sym brought.over) in (
          w,
          record {
            value = h.value;
            over = h.over;
            reads = λ ps points.
                agree_trans (reading_of w) (applied mult n (reading_of y)) (applied mult n (reading_of a)) ps (den-positive y brought.value) (h.reads ps points)
                (applied_agrees mult n (reading_of y) (reading_of a) ps
                (λ e. subst (λ bs. IsDoubled n (map kind_of bs)) (sym brought.over) (doubled_kinds p.before p.after (join_at p)))
                brought.kinds (subst (λ ks. ArePoints ks ps) to_y points)
                (λ qs here. brought.reads qs (subst (λ ks. ArePoints ks qs) brought.kinds here)));
          },
        )

    -- the join is built
    join_built : IsTrue (is_built (join_at p))
    join_built =
        let built = subst AreBuilt at ha.built in
        (joined_built (p.left ∷ []) (p.right ∷ []) (built-here p.before (p.right ∷ p.after) p.left built, tt)
        ((built-back p.before (p.left ∷ p.right ∷ p.after) built).1.0, tt) refl).0

    pair_some : (answer : Answer) × PairRow a p answer
    pair_some =
        let row = checked_some (pair_checks a p) (NeighbourProduct p.before p.after (join_at p) a) Any
        (All-cons IsCheck (Joined p.left p.right) (DegreeWithin (degree_of_value a) (least_limit (left_over p)) ∷ []) tt
        (All-cons IsCheck (DegreeWithin (degree_of_value a) (least_limit (left_over p))) [] tt (All-nil IsCheck)))
        (λ pass.
        let within = DegreeWithin (degree_of_value a) (least_limit (left_over p)) in
        let joined = are_joined p (All-head Passes (Joined p.left p.right) (within ∷ []) pass) in
        let degree : degree_of_value a ≤ least_limit (left_over p) = All-head Passes within [] (All-tail Passes (Joined p.left p.right) (within ∷ []) pass) in
        let small : degree_of_value a ≤ limit_of (algebra_of (join_at p)) =
        (within-back (degree_of_value a) p.before (join_at p ∷ p.after) (within_each (degree_of_value a) (left_over p) degree)).0 in
        then_some (ConvertsAt n (join_at p) a) Second (NotAbove a) Any
        (converts_at_some n (join_at p) a p.before (p.right ∷ p.after) p.left ha at refl join_built joined.left_inside small)
        (λ x hx lx.
        let first = first_brought x hx in
        then_some (ConvertsAt (n + 1) (join_at p) x) Last (NotAbove x) Any
        (converts_at_some (n + 1) (join_at p) x (p.before ++ join_at p ∷ []) p.after p.right first.value (second_at x first) second_long join_built joined.right_inside (omega (arith, lx, small)))
        (λ y hy ly.
        let brought = both_brought x y joined first hy in
        checked_some (linear_checks y) (Answers (left_over p) (applied mult n (reading_of a))) Any (linear_checks_are y brought.value)
        (λ room. let w = product_of_brought y joined brought room in answers_some (left_over p) (applied mult n (reading_of a)) Any w.0 w.1 tt)))) in
        (row.answer, row.allowed)

-- the checks of neighbours can be made
neighbour_checks_are : (at : Place) (rank : ℕ) → All IsCheck (neighbour_checks at rank)
neighbour_checks_are Only rank = All-cons IsCheck (SameRank rank 2) [] tt (All-nil IsCheck)
neighbour_checks_are (At k) rank = All-cons IsCheck (HasComponent k (rank - 1)) [] tt (All-nil IsCheck)

-- where they pass, both are there
neighbours_within : (at : Place) (rank : ℕ) → All Passes (neighbour_checks at rank) → position_of at + 1 < rank
neighbours_within Only rank pass = let two : rank ≡ 2 = All-head Passes (SameRank rank 2) [] pass in omega (arith, two)
neighbours_within (At k) rank pass = let here = All-head Passes (HasComponent k (rank - 1)) [] pass in omega (arith, here.0, here.1)

module _ (at : Place) (a : Expansion) (ha : IsValue a) where
  -- the neighbours that a row speaks of are those at the place
  at_parts : (r : Answer) → MultAt (position_of at) a r → (p : Neighbours) → AreAt (position_of at) a.bases p → PairRow a p r
  at_parts r (f, x, y, l, is, long, row) p here =
      subst (λ q. PairRow a q r) (same_neighbours f l x y p.before p.after p.left p.right (long ∙ sym here.long) (sym is ∙ here.is)) row

  mult_at_once : (r s : Answer) → MultAt (position_of at) a r → MultAt (position_of at) a s → r ≡ s
  mult_at_once r s (f, x, y, l, is, long, row) other =
      let p = neighbours f x y l in
      pair_once a ha p r s row (at_parts s other p (record { is = is; long = long }))

  mult_once : (r s : Answer) → MultRow at a r → MultRow at a s → r ≡ s
  mult_once = checked_once (neighbour_checks at (length a.bases)) (MultAt (position_of at) a) mult_at_once

  mult_some : (answer : Answer) × MultRow at a answer
  mult_some =
      let row = checked_some (neighbour_checks at (length a.bases)) (MultAt (position_of at) a) Any (neighbour_checks_are at (length a.bases))
      (λ pass.
      let (p, here) = neighbours_at (position_of at) a.bases (neighbours_within at (length a.bases) pass) in
      let pair = pair_some a ha p here.is in
      record { answer = pair.0; allowed = (p.before, p.left, p.right, p.after, here.is, here.long, pair.1); holds = λ v is. tt }) in
      (row.answer, row.allowed)

  -- the answer of neighbours, by their place
  mult_at_reads : (v : Expansion) → MultAt (position_of at) a (Ok v)
      → Expands (mult_bases (position_of at) a.bases) (applied mult (position_of at) (reading_of a)) v × (map kind_of (mult_bases (position_of at) a.bases) ≡ kinds_after_at (position_of at) mult (map kind_of a.bases))
  mult_at_reads v (f, x, y, l, is, long, row) =
      let p = neighbours f x y l in
      let (pass, h) = pair_reads a ha p v row in
      let joined = are_joined p (All-head Passes (Joined x y) (DegreeWithin (degree_of_value a) (least_limit (left_over p)) ∷ []) pass) in
      let bases : left_over p ≡ mult_bases (length f) a.bases = sym (mult_bases-at f l x y) ∙ ap (λ bs. mult_bases (length f) bs) (sym is) in
      let kinds : map kind_of (left_over p) ≡ kinds_after_at (length f) mult (map kind_of a.bases) =
      kinds-mult f l x y (join_at p) (sym joined.right_kind) ∙ ap (λ bs. kinds_after_at (length f) mult (map kind_of bs)) (sym is) in (
        subst (λ m. Expands (mult_bases m a.bases) (applied mult m (reading_of a)) v) long (subst (λ bs. Expands bs (applied mult (length f) (reading_of a)) v) bases h),
        subst (λ m. map kind_of (mult_bases m a.bases) ≡ kinds_after_at m mult (map kind_of a.bases)) long (ap (λ bs. map kind_of bs) (sym bases) ∙ kinds),
      )

pub mults_decide : MultLaw
mults_decide at a ha = record {
  once = mult_once at a ha;
  some = mult_some at a ha;
  reads = λ v h. (mult_at_reads at a ha v (checked_value (neighbour_checks at (length a.bases)) (MultAt (position_of at) a) v h).1).0;
  kinds = λ v h. (mult_at_reads at a ha v (checked_value (neighbour_checks at (length a.bases)) (MultAt (position_of at) a) v h).1).1;
}
