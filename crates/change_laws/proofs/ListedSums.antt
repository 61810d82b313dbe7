-- Sums over lists of codes in which each code stands once.
use Rattle.std.proofs.Common.{◌≡◌, ℕ, zero, suc, ◌<◌, ◌≤◌, Bool, true, false, List, [], ◌∷◌, length, get_or, refl, sym, ◌∙◌, ap, arith}
use Rattle.std.specs.List.{All}
use Rattle.std.specs.Ordering.{nat_cmp, ordering_reverse}
use Rattle.std.specs.declared.cmp.Ordering.TheVariants.{Less, Greater}
use Rattle.std.specs.Cmp.Lexicographic.{slice_cmp}
use Rattle.std.proofs.Math.IntN.{ℤ, pos, ◌*ℤ◌, *ℤ-zero, *ℤ-one, one}
use Rattle.std.proofs.lemmas.Cmp.{nat_list_cmp_total}
use Rattle.std.proofs.lemmas.List.{get_or_default}
use Rattle.std.proofs.lemmas.List.Elements.{All-weaker}
use Rattle.std.proofs.lemmas.Int.{ints}
use Rattle.realisations.specs.Codes.{Code}
use Rattle.realisations.specs.Lists.{same_list, one_if}
use Rattle.realisations.proofs.Sums.{sums}
use Rattle.hopf_num.proofs.Ring.{*ℤ-+ℤ}
use Rattle.basis_representatives.proofs.SameLists.{same_list-true, same_list-self, same_list-sym}
use Rattle.linear_combos.specs.CodeLists.{IsInOrder, IsListed, ListsEach}
use Rattle.change_laws.proofs.IntSums.{sum_over, sum_over_same, sum_over_both}

-- how often a code stands in a list
abbrev pub times : Code → List Code → ℕ
times code codes = sums (λ v. one_if (same_list v code)) codes

-- the part of a sum at one code
sum_over_at : (f : Code → ℤ) (code : Code) (codes : List Code) → sum_over (λ v. f v *ℤ pos (one_if (same_list v code))) codes ≡ f code *ℤ pos (times code codes)
sum_over_at f code [] = sym (*ℤ-zero (f code))
sum_over_at f code (v ∷ codes) =
    let rest = sum_over_at f code codes in
    let spread = *ℤ-+ℤ (f code) (pos (one_if (same_list v code))) (pos (times code codes)) in
    omega (arith, ints, rest, spread, by_test (same_list v code) refl)
  where
    by_test : (b : Bool) → same_list v code ≡ b → f v *ℤ pos (one_if b) ≡ f code *ℤ pos (one_if b)
    by_test true e = ap (λ u. f u *ℤ pos 1) (same_list-true v code e)
    by_test false e = *ℤ-zero (f v) ∙ sym (*ℤ-zero (f code))

-- the codes of one list stand once each in the other, which may hold codes that are not in the first where the function is 0: the sums are the same
pub same_sums : (f : Code → ℤ) (xs ys : List Code) → All (λ x. times x ys ≡ 1) xs → All (λ y. f y *ℤ pos (times y xs) ≡ f y) ys → sum_over f xs ≡ sum_over f ys
unfolding one
same_sums f xs ys in_ys in_xs =
    sum_over_same f (λ x. sum_over (λ y. f y *ℤ pos (one_if (same_list y x))) ys) xs
    (All-weaker (λ x. times x ys ≡ 1) (λ x. f x ≡ sum_over (λ y. f y *ℤ pos (one_if (same_list y x))) ys)
    (λ x one_time. sym (sum_over_at f x ys ∙ ap (λ n. f x *ℤ pos n) one_time ∙ *ℤ-one (f x))) xs in_ys)
    ∙ sum_over_both (λ x y. f y *ℤ pos (one_if (same_list y x))) xs ys
    ∙ sum_over_same (λ y. sum_over (λ x. f y *ℤ pos (one_if (same_list y x))) xs) f ys
    (All-weaker (λ y. f y *ℤ pos (times y xs) ≡ f y) (λ y. sum_over (λ x. f y *ℤ pos (one_if (same_list y x))) xs ≡ f y)
    (λ y there. (λ i. sum_over (λ x. f y *ℤ pos (one_if (same_list-sym y x i))) xs) ∙ sum_over_at (λ x. f y) y xs ∙ there) ys in_xs)

-- a code that is listed is counted
counted : (codes : List Code) (i : ℕ) (code : Code) → i < length codes → get_or codes i [] ≡ code → 1 ≤ times code codes
counted [] i code lt is = absurd (omega (arith, lt))
counted (v ∷ codes) zero code lt is = omega (arith, ap one_if (ap (λ u. same_list u code) is ∙ same_list-self code))
counted (v ∷ codes) (suc i) code lt is = omega (arith, counted codes i code (omega (arith, lt)) is)

-- and one that is counted is listed
listed : (code : Code) (codes : List Code) → 1 ≤ times code codes → IsListed code codes
listed code [] some = absurd (omega (arith, some))
listed code (v ∷ codes) some = by_test (same_list v code) refl (λ k. listed code codes k)
  where
    by_test : (b : Bool) → same_list v code ≡ b → (1 ≤ times code codes → IsListed code codes) → IsListed code (v ∷ codes)
    by_test true e rest = (0, omega arith, same_list-true v code e)
    by_test false e rest = let there = rest (omega (arith, some, ap one_if e)) in (suc there.0, omega (arith, there.1), there.2)

-- a code does not come before itself
not_before_itself : (code : Code) → slice_cmp nat_cmp code code ≡ Less → ⊥
not_before_itself code less = turned (sym less ∙ nat_list_cmp_total.antisymm code code ∙ ap ordering_reverse less)
  where
    turned : Less ≡ Greater → ⊥
    turned e = absurd (cc)

-- in canonical order no code stands twice
at_most_once : (codes : List Code) → IsInOrder codes → (code : Code) → times code codes ≤ 1
at_most_once [] order code = omega arith
at_most_once (v ∷ codes) order code = by_test (same_list v code) refl (at_most_once codes (λ i j lt lt'. order (suc i) (suc j) (omega arith) (omega arith)) code)
  where
    by_count : (n : ℕ) → times code codes ≡ n → v ≡ code → times code codes ≤ 0
    by_count zero e is = omega (arith, e)
    by_count (suc n) e is =
        let there = listed code codes (omega (arith, e)) in
        absurd (not_before_itself code (sym (ap (λ u. slice_cmp nat_cmp u (get_or codes there.0 [])) is ∙ ap (λ u. slice_cmp nat_cmp code u) there.2) ∙ order 0 (suc there.0) (omega arith) (omega (arith, there.1))))

    by_test : (b : Bool) → same_list v code ≡ b → times code codes ≤ 1 → times code (v ∷ codes) ≤ 1
    by_test true e rest = omega (arith, ap one_if e, by_count (times code codes) refl (same_list-true v code e))
    by_test false e rest = omega (arith, ap one_if e, rest)

-- each code with the property stands once in a list of these
pub listed_once : (P : Code → Type 0) (codes : List Code) → ListsEach P codes → (code : Code) → P code → times code codes ≡ 1
listed_once P codes h code p =
    let there = h.whole code p in
    omega (arith, counted codes there.0 code there.1 there.2, at_most_once codes h.in_order code)

-- and no other one
pub not_listed : (P : Code → Type 0) (codes : List Code) → ListsEach P codes → (code : Code) → (P code → ⊥) → times code codes ≡ 0
not_listed P codes h code none = by_count (times code codes) refl
  where
    by_count : (n : ℕ) → times code codes ≡ n → times code codes ≡ 0
    by_count zero e = e
    by_count (suc n) e = absurd (none (h.each code (listed code codes (omega (arith, e)))))

-- each code of the list has the property
pub each_listed : (P : Code → Type 0) (codes : List Code) → ListsEach P codes → All P codes
each_listed P codes h = λ k d lt. h.each (get_or codes k d) (k, lt, get_or_default codes k [] d lt)
