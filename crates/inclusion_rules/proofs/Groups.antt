-- Codes after their images, in the order of these: the group of an index, and its place.
use Rattle.std.proofs.Common.{◌≡◌, ℕ, zero, suc, ◌+◌, ◌<◌, ◌≤◌, Bool, true, false, List, [], ◌∷◌, map, length, take, get_or, refl, sym, ◌∙◌, ap, arith}
use Rattle.std.specs.Prelude.{nat_eq, not, ◌&&◌, if◌then◌else◌}
use Rattle.std.specs.List.{filter}
use Rattle.std.specs.List.Sorted.{IsStableByKey, ties}
use Rattle.std.specs.Ordering.{nat_cmp, is_lt, ordering_reverse}
use Rattle.std.specs.declared.cmp.Ordering.{Ordering}
use Rattle.std.specs.declared.cmp.Ordering.TheVariants.{Less, Equal, Greater}
use Rattle.std.specs.Cmp.{IsStrictWeakOrder}
use Rattle.std.specs.Cmp.Lexicographic.{slice_cmp, nat_list_cmp_total, other_text, pointwise}
use Rattle.std.specs.FinMap.{slice_cmp-IsAntisymmetric, nat_cmp-IsAntisymmetric}
use Rattle.std.proofs.lemmas.Bool.{false≢true}
use Rattle.std.proofs.lemmas.List.Sorted.{ranks_by, sorted_far}
use Rattle.basis_representatives.proofs.SameLists.{same_list-self, same_list-true}
use Rattle.inclusion_laws.specs.Inclusions.{those_over}
use Rattle.realisations.specs.Codes.{Code}
use Rattle.realisations.specs.Lists.{same_list}
use Rattle.inclusion_rules.specs.Table.{IsByImages, Pairs, group, is_before}

-- the canonical order of codes
is_weak_order : IsStrictWeakOrder (λ (a b : Code). is_lt (slice_cmp nat_cmp a b))
is_weak_order = ranks_by nat_list_cmp_total (λ (a : Code). a)

by_images_order : IsStrictWeakOrder (λ (p q : Code × Code). is_lt (slice_cmp nat_cmp p.0 q.0))
by_images_order = ranks_by nat_list_cmp_total (λ (p : Code × Code). p.0)

-- a code is not before itself
not_less : (a b : Code) → a ≡ b → is_lt (slice_cmp nat_cmp a b) ≡ false
not_less a b e = by_test (is_lt (slice_cmp nat_cmp a b)) refl
  where
    by_test : (t : Bool) → is_lt (slice_cmp nat_cmp a b) ≡ t → is_lt (slice_cmp nat_cmp a b) ≡ false
    by_test true less =
        let other : is_lt (slice_cmp nat_cmp b a) ≡ false = is_weak_order.one_way a b less in
        (λ i. is_lt (slice_cmp nat_cmp (e i) (sym e i))) ∙ other
    by_test false less = less

-- codes that the order does not tell apart are the same
pub same_code : (a b : Code) → is_lt (slice_cmp nat_cmp a b) ≡ false → is_lt (slice_cmp nat_cmp b a) ≡ false → a ≡ b
same_code a b le ge = by_order (slice_cmp nat_cmp a b) refl
  where
    by_order : (o : Ordering) → slice_cmp nat_cmp a b ≡ o → a ≡ b
    by_order Less e = absurd (false≢true (sym le ∙ ap is_lt e))
    by_order Equal e = slice_cmp-IsAntisymmetric nat_cmp-IsAntisymmetric a b e
    by_order Greater e =
        let back : slice_cmp nat_cmp b a ≡ Less = nat_list_cmp_total.antisymm b a ∙ ap ordering_reverse e in
        absurd (false≢true (sym ge ∙ ap is_lt back))

-- lists that differ
pub differ : (a b : Code) → (a ≡ b → ⊥) → same_list a b ≡ false
differ a b h = by_test (same_list a b) refl
  where
    by_test : (t : Bool) → same_list a b ≡ t → same_list a b ≡ false
    by_test true e = absurd (h (same_list-true a b e))
    by_test false e = e

-- so the ties of the order are the same codes
ties_same : (a b : Code) → not (is_lt (slice_cmp nat_cmp a b)) && not (is_lt (slice_cmp nat_cmp b a)) ≡ same_list b a
ties_same a b = by_tests (is_lt (slice_cmp nat_cmp a b)) refl (is_lt (slice_cmp nat_cmp b a)) refl
  where
    by_tests : (s : Bool) → is_lt (slice_cmp nat_cmp a b) ≡ s → (t : Bool) → is_lt (slice_cmp nat_cmp b a) ≡ t
        → not (is_lt (slice_cmp nat_cmp a b)) && not (is_lt (slice_cmp nat_cmp b a)) ≡ same_list b a
    by_tests true e t f = (λ i. not (e i) && not (is_lt (slice_cmp nat_cmp b a))) ∙ sym (differ b a (λ same. false≢true (sym (not_less a b (sym same)) ∙ e)))
    by_tests false e true f = (λ i. not (e i) && not (f i)) ∙ sym (differ b a (λ same. false≢true (sym (not_less b a same) ∙ f)))
    by_tests false e false f = (λ i. not (e i) && not (f i)) ∙ sym (ap (λ c. same_list b c) (same_code a b e f) ∙ same_list-self b)

-- a stable sort by images keeps each group
pub groups_kept : (old new : Pairs) → IsStableByKey (λ (p : Code × Code). p.0) (slice_cmp nat_cmp) old new → (index : Code) → group index new ≡ group index old
groups_kept old new stable index =
    let tests : (λ (p : Code × Code). ties (λ (x y : Code × Code). is_lt (slice_cmp nat_cmp x.0 y.0)) (index, []) p) ≡ (λ (p : Code × Code). same_list p.0 index) = λ i p. ties_same index p.0 i in
    ap (λ (v : Pairs). map (λ p. p.1) v) (ap (λ (test : Code × Code → Bool). filter test new) (sym tests) ∙ stable (index, []) ∙ ap (λ (test : Code × Code → Bool). filter test old) tests)

-- the groups of codes with their images
pub group_images : (to : Code → Code) (index : Code) (codes : List Code) → group index (map (λ code. (to code, code)) codes) ≡ those_over to index codes
group_images to index [] = refl
group_images to index (c ∷ codes) = by_test (same_list (to c) index) (group_images to index codes)
  where
    by_test : (t : Bool) → group index (map (λ code. (to code, code)) codes) ≡ those_over to index codes
        → map (λ (p : Code × Code). p.1) (if t then (to c, c) ∷ filter (λ p. same_list p.0 index) (map (λ code. (to code, code)) codes) else filter (λ p. same_list p.0 index) (map (λ code. (to code, code)) codes))
        ≡ (if t then c ∷ those_over to index codes else those_over to index codes)
    by_test true e = ap (λ v. c ∷ v) e
    by_test false e = e

-- pairs of another image are in no group
group-skips : (index : Code) (p : Code × Code) (pairs : Pairs) → same_list p.0 index ≡ false → group index (p ∷ pairs) ≡ group index pairs
group-skips index p pairs e = (λ i. map (λ (q : Code × Code). q.1) (if e i then p ∷ filter (λ q. same_list q.0 index) pairs else filter (λ q. same_list q.0 index) pairs))

-- none of the first ones is in the group
pub group-before : (index : Code) (pairs : Pairs) (n : ℕ) → n ≤ length pairs → ((i : ℕ) → i < n → same_list (get_or pairs i ([], [])).0 index ≡ false) → group index (take n pairs) ≡ []
group-before index pairs zero le h = refl
group-before index [] (suc n) le h = refl
group-before index (p ∷ pairs) (suc n) le h =
    group-skips index p (take n pairs) (h 0 (omega arith)) ∙ group-before index pairs n (omega (arith, le)) (λ i lt. h (suc i) (omega (arith, lt)))

-- none of the last ones is
pub group-after : (index : Code) (pairs : Pairs) (n : ℕ) → ((i : ℕ) → n ≤ i → i < length pairs → same_list (get_or pairs i ([], [])).0 index ≡ false) → group index (take n pairs) ≡ group index pairs
group-after index [] zero h = refl
group-after index [] (suc n) h = refl
group-after index (p ∷ pairs) zero h =
    group-after index pairs zero (λ i le lt. h (suc i) (omega arith) (omega (arith, lt))) ∙ sym (group-skips index p pairs (h 0 (omega arith) (omega arith)))
group-after index (p ∷ pairs) (suc n) h = by_test (same_list p.0 index) (group-after index pairs n (λ i le lt. h (suc i) (omega (arith, le)) (omega (arith, lt))))
  where
    by_test : (t : Bool) → group index (take n pairs) ≡ group index pairs
        → map (λ (q : Code × Code). q.1) (if t then p ∷ filter (λ q. same_list q.0 index) (take n pairs) else filter (λ q. same_list q.0 index) (take n pairs))
        ≡ map (λ (q : Code × Code). q.1) (if t then p ∷ filter (λ q. same_list q.0 index) pairs else filter (λ q. same_list q.0 index) pairs)
    by_test true e = ap (λ v. p.1 ∷ v) e
    by_test false e = e

-- bisection: the images up to one before an index are before it, and those from one that is not are not
module _ (pairs : Pairs) (in_order : IsByImages pairs) (index : Code) (mid : ℕ) (in_range : mid < length pairs) where
  rises : (i j : ℕ) → i ≤ j → j < length pairs → is_lt (slice_cmp nat_cmp (get_or pairs j ([], [])).0 (get_or pairs i ([], [])).0) ≡ false
  rises i j le lt = sorted_far (λ (p q : Code × Code). is_lt (slice_cmp nat_cmp p.0 q.0)) by_images_order pairs in_order i j ([], []) le lt

  pub before_up_to : is_before pairs index mid ≡ true → (i : ℕ) → i < mid + 1 → is_before pairs index i ≡ true
  before_up_to less i lt = by_test (is_before pairs index i) refl
    where
      by_test : (t : Bool) → is_before pairs index i ≡ t → is_before pairs index i ≡ true
      by_test true e = e
      by_test false e = absurd (false≢true (sym (is_weak_order.chain (get_or pairs mid ([], [])).0 (get_or pairs i ([], [])).0 index (rises i mid (omega (arith, lt)) in_range) e) ∙ less))

  pub after_from : is_before pairs index mid ≡ false → (i : ℕ) → mid ≤ i → i < length pairs → is_before pairs index i ≡ false
  after_from more i le lt = is_weak_order.chain (get_or pairs i ([], [])).0 (get_or pairs mid ([], [])).0 index (rises mid i le lt) more

  -- where an image is neither before an index nor the index, no later one is the index
  pub none_after : is_before pairs index mid ≡ false → ((get_or pairs mid ([], [])).0 ≡ index → ⊥) → (i : ℕ) → mid ≤ i → i < length pairs → same_list (get_or pairs i ([], [])).0 index ≡ false
  none_after more other i le lt =
      differ (get_or pairs i ([], [])).0 index (λ same. other (same_code (get_or pairs mid ([], [])).0 index more
      (ap (λ (c : Code). is_lt (slice_cmp nat_cmp c (get_or pairs mid ([], [])).0)) (sym same) ∙ rises mid i le lt)))

-- what is before an index is not the index
pub none_before : (pairs : Pairs) (index : Code) (i : ℕ) → is_before pairs index i ≡ true → same_list (get_or pairs i ([], [])).0 index ≡ false
none_before pairs index i less = differ (get_or pairs i ([], [])).0 index (λ same. false≢true (sym (not_less (get_or pairs i ([], [])).0 index same) ∙ less))

-- a test of codes says that they differ
pub tested_apart : (a b : Code) → not (pointwise nat_eq a b) ≡ true → a ≡ b → ⊥
tested_apart a b e = by_test (pointwise nat_eq a b) refl
  where
    by_test : (t : Bool) → pointwise nat_eq a b ≡ t → a ≡ b → ⊥
    by_test true f = absurd (false≢true (sym (ap not f) ∙ e))
    by_test false f = other_text a b (sym f)
