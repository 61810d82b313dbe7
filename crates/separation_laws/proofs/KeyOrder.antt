-- The order of keys, and one component of them.
use Rattle.std.proofs.Common.{◌≡◌, ℕ, zero, suc, ◌*◌, ◌<◌, true, false, nat_eq, List, [], ◌∷◌, length, insert, remove, inl, inr, refl, sym, ◌∙◌, ap, arith}
use Rattle.std.specs.declared.cmp.Ordering.{Ordering}
use Rattle.std.specs.declared.cmp.Ordering.TheVariants.{Less, Equal, Greater}
use Rattle.std.specs.Ordering.{nat_cmp, ordering_then}
use Rattle.std.specs.Cmp.{nat_cmp_is}
use Rattle.std.specs.Cmp.Lexicographic.{slice_cmp, nat_list_cmp_total}
use Rattle.std.proofs.lemmas.Bool.{cases_lt}
use Rattle.std.proofs.lemmas.Bool.Decides.{nat_tests}
use Rattle.std.proofs.lemmas.Cmp.{tied_itself}
use Rattle.realisations.specs.Codes.{Key}
use Rattle.realisations.specs.Combinations.{key_cmp}
use Rattle.realisations.specs.Lists.{one_if, same_list}
use Rattle.realisations.proofs.Coefficients.{counts}
use Rattle.basis_representatives.proofs.SameLists.{one_if-and}
use Rattle.linear_combos.specs.Keys.{code_at}

-- an order by a first part and then a rest is equal where both are
counts-then : (a b : Ordering) → counts (ordering_then a b) ≡ counts a * counts b
counts-then Less b = omega arith
counts-then Equal b = omega arith
counts-then Greater b = omega arith

-- the test of two letters, and their order
one_if-nat_eq : (x y : ℕ) → one_if (nat_eq y x) ≡ counts (nat_cmp x y)
one_if-nat_eq x y = elim (cases_lt x y) [
  | inl less ↦
      let no : nat_eq y x ≡ false = grind (arith, nat_tests) in
      rw (no, ← nat_cmp_is x y Less less) refl
  | inr not_less ↦ elim (cases_lt y x) [
    | inl more ↦
        let no : nat_eq y x ≡ false = grind (arith, nat_tests) in
        rw (no, ← nat_cmp_is x y Greater more) refl
    | inr under ↦
        let same : x ≡ y = omega arith in
        let yes : nat_eq y x ≡ true = grind (arith, nat_tests) in
        rw (yes, ← nat_cmp_is x y Equal same) refl
  ]
]

-- the test of two codes, and their order
one_if-same_list : (c d : List ℕ) → one_if (same_list d c) ≡ counts (slice_cmp nat_cmp c d)
one_if-same_list [] [] = refl
one_if-same_list [] (y ∷ d) = refl
one_if-same_list (x ∷ c) [] = refl
one_if-same_list (x ∷ c) (y ∷ d) =
    one_if-and (nat_eq y x) (same_list d c)
    ∙ ap (λ n. n * one_if (same_list d c)) (one_if-nat_eq x y)
    ∙ ap (λ n. counts (nat_cmp x y) * n) (one_if-same_list c d)
    ∙ sym (counts-then (nat_cmp x y) (slice_cmp nat_cmp c d))

-- a key is equal to another one where its code in a component is, and its other codes are
pub counts-insert : (n : ℕ) (key others : Key) (code : List ℕ) → n < length key → suc (length others) ≡ length key
    → counts (key_cmp key (insert others n code)) ≡ one_if (same_list code (code_at key n)) * counts (key_cmp (remove key n) others)
counts-insert n [] others code lt long = absurd (omega arith)
counts-insert zero (d ∷ key) others code lt long =
    counts-then (slice_cmp nat_cmp d code) (key_cmp key others) ∙ ap (λ k. k * counts (key_cmp key others)) (sym (one_if-same_list d code))
counts-insert (suc n) (d ∷ key) [] code lt long = absurd (omega arith)
counts-insert (suc n) (d ∷ key) (e ∷ others) code lt long =
    let first = counts (slice_cmp nat_cmp d e) in
    omega (
      arith,
      counts-then (slice_cmp nat_cmp d e) (key_cmp key (insert others n code)),
      ap (λ k. first * k) (counts-insert n key others code (omega arith) (omega arith)),
      ap (λ k. one_if (same_list code (code_at key n)) * k) (counts-then (slice_cmp nat_cmp d e) (key_cmp (remove key n) others)),
    )

-- keys with one code in a component stay in their order without it
pub less-remove : (n : ℕ) (a b : Key) → n < length a → n < length b → code_at a n ≡ code_at b n → key_cmp a b ≡ Less → key_cmp (remove a n) (remove b n) ≡ Less
less-remove n [] b lt lt' same less = absurd (omega arith)
less-remove n (x ∷ a) [] lt lt' same less = absurd (omega arith)
less-remove zero (x ∷ a) (y ∷ b) lt lt' same less =
    let tied : slice_cmp nat_cmp x y ≡ Equal = ap (slice_cmp nat_cmp x) (sym same) ∙ tied_itself nat_list_cmp_total x in
    ap (λ o. ordering_then o (key_cmp a b)) (sym tied) ∙ less
less-remove (suc n) (x ∷ a) (y ∷ b) lt lt' same less = by_first (slice_cmp nat_cmp x y) less (less-remove n a b (omega arith) (omega arith) same)
  where
    by_first : (o : Ordering) → ordering_then o (key_cmp a b) ≡ Less → (key_cmp a b ≡ Less → key_cmp (remove a n) (remove b n) ≡ Less)
        → ordering_then o (key_cmp (remove a n) (remove b n)) ≡ Less
    by_first Less h ih = refl
    by_first Equal h ih = ih h
    by_first Greater h ih = absurd (cc)
