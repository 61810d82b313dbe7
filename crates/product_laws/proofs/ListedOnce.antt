-- A list in canonical order of the codes with a property holds each of them once.
use Rattle.std.proofs.Common.{◌≡◌, zero, suc, ◌+◌, ◌≤◌, Bool, true, false, List, [], ◌∷◌, refl, sym, ◌∙◌, ap, arith, inl, inr}
use Rattle.std.specs.List.{AllByRecursion}
use Rattle.std.specs.Ordering.{nat_cmp, ordering_reverse}
use Rattle.std.specs.declared.cmp.Ordering.{Ordering}
use Rattle.std.specs.declared.cmp.Ordering.TheVariants.{Less, Equal, Greater}
use Rattle.std.specs.Cmp.Lexicographic.{slice_cmp}
use Rattle.std.proofs.lemmas.Bool.{cases_lt}
use Rattle.std.proofs.lemmas.Cmp.{nat_list_cmp_total}
use Rattle.realisations.specs.Codes.{Code}
use Rattle.realisations.specs.Lists.{same_list, one_if}
use Rattle.basis_representatives.proofs.SameLists.{same_list-self, same_list-true}
use Rattle.linear_combos.specs.CodeLists.{IsInOrder, IsListed, ListsEach}
use Rattle.word_laws.specs.AddedCodes.{times_in}

not_before_itself : (code : Code) → slice_cmp nat_cmp code code ≡ Less → ⊥
not_before_itself code less = turned (slice_cmp nat_cmp code code) (nat_list_cmp_total.antisymm code code) less
  where
    turned : (o : Ordering) → o ≡ ordering_reverse o → o ≡ Less → ⊥
    turned Less h e = absurd (cc)
    turned Equal h e = absurd (cc)
    turned Greater h e = absurd (cc)

in_order-rest : (c : Code) (codes : List Code) → IsInOrder (c ∷ codes) → IsInOrder codes
in_order-rest c codes h i j lt lt' = h (suc i) (suc j) (omega (arith, lt)) (omega (arith, lt'))

-- a code that is not listed is there no time
pub times_in-none : (code : Code) (codes : List Code) → (IsListed code codes → ⊥) → times_in code codes ≡ 0
times_in-none code [] h = refl
times_in-none code (c ∷ codes) h = by_test (same_list code c) refl (times_in-none code codes (λ l. h (suc l.0, omega (arith, l.1), l.2)))
  where
    by_test : (b : Bool) → same_list code c ≡ b → times_in code codes ≡ 0 → one_if (same_list code c) + times_in code codes ≡ 0
    by_test true e rest = absurd (h (0, omega arith, sym (same_list-true code c e)))
    by_test false e rest = omega (arith, ap one_if e, rest)

-- one that is listed is there once
pub times_in-once : (code : Code) (codes : List Code) → IsInOrder codes → IsListed code codes → times_in code codes ≡ 1
times_in-once code [] ordered (i, lt, is) = absurd (omega (arith, lt))
times_in-once code (c ∷ codes) ordered (zero, lt, is) =
    let here : one_if (same_list code c) ≡ 1 = ap one_if (ap (λ d. same_list d c) (sym is) ∙ same_list-self c) in
    let none : times_in code codes ≡ 0 = times_in-none code codes
    (λ l. not_before_itself c ((ap (slice_cmp nat_cmp c) (is ∙ sym l.2)) ∙ ordered 0 (suc l.0) (omega arith) (omega (arith, l.1)))) in
    omega (arith, here, none)
times_in-once code (c ∷ codes) ordered (suc i, lt, is) =
    by_test (same_list code c) refl (times_in-once code codes (in_order-rest c codes ordered) (i, omega (arith, lt), is))
  where
    by_test : (b : Bool) → same_list code c ≡ b → times_in code codes ≡ 1 → one_if (same_list code c) + times_in code codes ≡ 1
    by_test true e rest =
        absurd (not_before_itself c (ap (slice_cmp nat_cmp c) (sym (same_list-true code c e) ∙ sym is) ∙ ordered 0 (suc i) (omega arith) lt))
    by_test false e rest = omega (arith, ap one_if e, rest)

-- a code that is counted is listed
listed : (code : Code) (codes : List Code) → 1 ≤ times_in code codes → IsListed code codes
listed code [] some = absurd (omega (arith, some))
listed code (c ∷ codes) some = by_test (same_list code c) refl (λ k. listed code codes k)
  where
    by_test : (b : Bool) → same_list code c ≡ b → (1 ≤ times_in code codes → IsListed code codes) → IsListed code (c ∷ codes)
    by_test true e rest = (0, omega arith, sym (same_list-true code c e))
    by_test false e rest = let there = rest (omega (arith, some, ap one_if e)) in (suc there.0, omega (arith, there.1), there.2)

-- in canonical order no code is there twice
pub times_in-at_most : (codes : List Code) → IsInOrder codes → (code : Code) → times_in code codes ≤ 1
times_in-at_most codes ordered code = elim (cases_lt 0 (times_in code codes)) [
  | inl some ↦ omega (arith, times_in-once code codes ordered (listed code codes some))
  | inr none ↦ omega (arith, none)
]

-- a list of the codes with a property holds a code once if a test says that it has the property, and else not
pub times_in-listed : (P : Code → Type 0) (codes : List Code) → ListsEach P codes → (code : Code) (test : Bool) → (P code → test ≡ true) → (test ≡ true → P code)
    → times_in code codes ≡ one_if test
times_in-listed P codes lists code true to from = times_in-once code codes lists.in_order (lists.whole code (from refl))
times_in-listed P codes lists code false to from = times_in-none code codes (λ l. differs (to (lists.each code l)))
  where
    differs : false ≡ true → ⊥
    differs e = absurd (cc)

-- and what each code with the property has, each of the list has
pub each_listed : (P Q : Code → Type 0) (codes : List Code) → ((code : Code) → IsListed code codes → P code) → ((code : Code) → P code → Q code) → AllByRecursion Q codes
each_listed P Q [] h has = tt
each_listed P Q (c ∷ codes) h has = (has c (h c (0, omega arith, refl)), each_listed P Q codes (λ code l. h code (suc l.0, omega (arith, l.1), l.2)) has)
