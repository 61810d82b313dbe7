-- Lists in canonical order: sorted, a list to which the codes with a property were added lists each of them.
use Rattle.std.proofs.Common.{◌≡◌, ◌⊎◌, ℕ, zero, suc, ◌+◌, ◌<◌, ◌≤◌, Bool, true, false, List, [], ◌∷◌, length, get_or, refl, sym, ◌∙◌, ap, arith, inl, inr}
use Rattle.std.specs.List.{sum_by}
use Rattle.std.specs.List.Sorted.{IsPermutation, IsSorted}
use Rattle.std.specs.Ordering.{nat_cmp, is_lt, ordering_reverse}
use Rattle.std.specs.declared.cmp.Ordering.{Ordering}
use Rattle.std.specs.declared.cmp.Ordering.TheVariants.{Less, Equal, Greater}
use Rattle.std.specs.Cmp.Lexicographic.{slice_cmp}
use Rattle.std.specs.FinMap.{slice_cmp-IsAntisymmetric, nat_cmp-IsAntisymmetric}
use Rattle.std.proofs.lemmas.Bool.{false≢true}
use Rattle.std.proofs.lemmas.Cmp.{nat_list_cmp_total}
use Rattle.std.proofs.lemmas.List.Sorted.{sorted_far, ranks_by, sum_by-IsPermutation}
use Rattle.std.proofs.lemmas.List.Sums.{sum_by-cons}
use Rattle.realisations.specs.Codes.{Code}
use Rattle.realisations.specs.Lists.{same_list, one_if}
use Rattle.basis_representatives.proofs.SameLists.{same_list-self, same_list-true}
use Rattle.linear_combos.specs.CodeLists.{IsInOrder, IsListed, ListsEach}
use Rattle.word_laws.specs.AddedCodes.{AddsEach, times_in}

times_in-sum_by : (w : Code) (codes : List Code) → times_in w codes ≡ sum_by (λ c. one_if (same_list w c)) codes
times_in-sum_by w [] = refl
times_in-sum_by w (c ∷ codes) = ap (λ n. one_if (same_list w c) + n) (times_in-sum_by w codes) ∙ sym (sum_by-cons (λ c. one_if (same_list w c)) c codes)

-- a list in another order holds each code as often
times_in-permuted : (w : Code) (codes sorted : List Code) → IsPermutation codes sorted → times_in w sorted ≡ times_in w codes
times_in-permuted w codes sorted h =
    times_in-sum_by w sorted ∙ sum_by-IsPermutation (λ c. one_if (same_list w c)) codes sorted h ∙ sym (times_in-sum_by w codes)

own : (w c : Code) → w ≡ c → one_if (same_list w c) ≡ 1
own w c is = ap one_if (ap (λ v. same_list v c) is ∙ same_list-self c)

-- a code at a place is counted, and one at two places twice
pub counted_at : (codes : List Code) (j : ℕ) (w : Code) → j < length codes → w ≡ get_or codes j [] → 1 ≤ times_in w codes
counted_at [] j w lt is = absurd (omega (arith, lt))
counted_at (c ∷ codes) zero w lt is = omega (arith, own w c is)
counted_at (c ∷ codes) (suc j) w lt is = omega (arith, counted_at codes j w (omega (arith, lt)) is)

counted_twice : (codes : List Code) (i j : ℕ) (w : Code) → i < j → j < length codes → w ≡ get_or codes i [] → w ≡ get_or codes j [] → 2 ≤ times_in w codes
counted_twice [] i j w lt lt' is is' = absurd (omega (arith, lt'))
counted_twice (c ∷ codes) i zero w lt lt' is is' = absurd (omega (arith, lt))
counted_twice (c ∷ codes) zero (suc j) w lt lt' is is' = omega (arith, own w c is, counted_at codes j w (omega (arith, lt')) is')
counted_twice (c ∷ codes) (suc i) (suc j) w lt lt' is is' = omega (arith, counted_twice codes i j w (omega (arith, lt)) (omega (arith, lt')) is is')

-- a code that is counted is listed
listed : (w : Code) (codes : List Code) → 1 ≤ times_in w codes → IsListed w codes
listed w [] some = absurd (omega (arith, some))
listed w (c ∷ codes) some = by_test (same_list w c) refl (λ k. listed w codes k)
  where
    by_test : (b : Bool) → same_list w c ≡ b → (1 ≤ times_in w codes → IsListed w codes) → IsListed w (c ∷ codes)
    by_test true e rest = (0, omega arith, sym (same_list-true w c e))
    by_test false e rest = let there = rest (omega (arith, some, ap one_if e)) in (suc there.0, omega (arith, there.1), there.2)

-- a sorted list in which no code stands twice rises strictly
rises : (codes : List Code) → ((w : Code) → times_in w codes ≤ 1) → IsSorted (slice_cmp nat_cmp) codes → IsInOrder codes
rises codes once sorted i j lt lt' = by_order (slice_cmp nat_cmp (get_or codes i []) (get_or codes j [])) refl
  where
    not_below : is_lt (slice_cmp nat_cmp (get_or codes j []) (get_or codes i [])) ≡ false
    not_below = sorted_far (λ a b. is_lt (slice_cmp nat_cmp a b)) (ranks_by nat_list_cmp_total (λ (a : List ℕ). a)) codes sorted i j [] (omega arith) lt'

    by_order : (o : Ordering) → slice_cmp nat_cmp (get_or codes i []) (get_or codes j []) ≡ o → slice_cmp nat_cmp (get_or codes i []) (get_or codes j []) ≡ Less
    by_order Less e = e
    by_order Equal e =
        let same : get_or codes i [] ≡ get_or codes j [] = slice_cmp-IsAntisymmetric nat_cmp-IsAntisymmetric (get_or codes i []) (get_or codes j []) e in
        absurd (omega (arith, counted_twice codes i j (get_or codes i []) lt lt' refl same, once (get_or codes i [])))
    by_order Greater e =
        let back : slice_cmp nat_cmp (get_or codes j []) (get_or codes i []) ≡ Less = nat_list_cmp_total.antisymm (get_or codes j []) (get_or codes i []) ∙ ap ordering_reverse e in
        absurd (false≢true (sym not_below ∙ ap is_lt back))

-- what was added to an empty list has the property, and is there once
pub added_once : (P : Code → Type 0) (codes : List Code) → AddsEach P [] codes → (w : Code) → times_in w codes ≤ 1
added_once P codes adds w = by_case (adds w)
  where
    by_case : (P w × (times_in w codes ≡ 0 + 1)) ⊎ ((P w → ⊥) × (times_in w codes ≡ 0)) → times_in w codes ≤ 1
    by_case (inl p) = omega (arith, p.1)
    by_case (inr p) = omega (arith, p.1)

pub added_has : (P : Code → Type 0) (codes : List Code) → AddsEach P [] codes → (w : Code) → 1 ≤ times_in w codes → P w
added_has P codes adds w some = by_case (adds w)
  where
    by_case : (P w × (times_in w codes ≡ 0 + 1)) ⊎ ((P w → ⊥) × (times_in w codes ≡ 0)) → P w
    by_case (inl p) = p.0
    by_case (inr p) = absurd (omega (arith, p.1, some))

pub added_all : (P : Code → Type 0) (codes : List Code) → AddsEach P [] codes → (w : Code) → P w → 1 ≤ times_in w codes
added_all P codes adds w h = by_case (adds w)
  where
    by_case : (P w × (times_in w codes ≡ 0 + 1)) ⊎ ((P w → ⊥) × (times_in w codes ≡ 0)) → 1 ≤ times_in w codes
    by_case (inl p) = omega (arith, p.1)
    by_case (inr p) = absurd (p.0 h)

-- the codes with a property, added to an empty list and sorted
pub sorted_lists : (P : Code → Type 0) (codes sorted : List Code) → AddsEach P [] codes → IsPermutation codes sorted → IsSorted (slice_cmp nat_cmp) sorted → ListsEach P sorted
sorted_lists P codes sorted adds moved in_order = record {
  each = λ w there. added_has P codes adds w (omega (arith, same w, counted_at sorted there.0 w there.1 (sym there.2)));
  whole = λ w h. listed w sorted (omega (arith, same w, added_all P codes adds w h));
  in_order = rises sorted (λ w. omega (arith, same w, added_once P codes adds w)) in_order;
}
  where
    same : (w : Code) → times_in w sorted ≡ times_in w codes
    same w = times_in-permuted w codes sorted moved

-- a read at a place that is there gives the same, whatever the value elsewhere is
pub here : (codes : List Code) (i : ℕ) (w : Code) → i < length codes → w ≡ get_or codes i w → w ≡ get_or codes i []
here [] i w lt is = absurd (omega (arith, lt))
here (c ∷ codes) zero w lt is = is
here (c ∷ codes) (suc i) w lt is = here codes i w (omega (arith, lt)) is
