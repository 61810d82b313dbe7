-- Lists of codes that rise in the canonical order, code by code.
use Rattle.std.proofs.Common.{◌≡◌, ◌⊎◌, ℕ, zero, suc, ◌<◌, List, [], ◌∷◌, ◌++◌, Ordering, length, refl, ◌∙◌, ap, arith, inl, inr}
use Rattle.std.specs.Prelude.{slice_index_or}
use Rattle.std.specs.List.{AllByRecursion}
use Rattle.std.specs.Ordering.{nat_cmp, ordering_then}
use Rattle.std.specs.declared.cmp.Ordering.TheVariants.{Less, Equal, Greater}
use Rattle.std.specs.Cmp.Lexicographic.{slice_cmp}
use Rattle.std.proofs.lemmas.Bool.Decides.{nat_tests}
use Rattle.realisations.specs.Codes.{Code}
use Rattle.realisations.proofs.Every.{every-append}
use Rattle.linear_combos.specs.CodeLists.{IsInOrder, IsListed}

-- a code comes before another in the canonical order
abbrev pub Comes : Code → Code → Type 0
Comes c d = slice_cmp nat_cmp c d ≡ Less

-- each code comes before all later ones
abbrev pub AreRising : List Code → Type 0
AreRising [] = Unit {0}
AreRising (c ∷ codes) = AllByRecursion (λ d. Comes c d) codes × AreRising codes

-- one of the codes
abbrev pub IsAmong : Code → List Code → Type 0
IsAmong c [] = ⊥
IsAmong c (d ∷ codes) = (d ≡ c) ⊎ IsAmong c codes

-- the comparison of a smaller number
less_is : (x y : ℕ) → x < y → nat_cmp x y ≡ Less
less_is x y h = grind (arith, nat_tests, h)

-- and of the same
equal_is : (x : ℕ) → nat_cmp x x ≡ Equal
equal_is x = grind (arith, nat_tests)

-- codes of one length stay in order with letters behind them
pub comes-append : (c d u v : List ℕ) → length c ≡ length d → Comes c d → Comes (c ++ u) (d ++ v)
comes-append [] [] u v e h = absurd (cc)
comes-append [] (y ∷ d) u v e h = absurd (omega (arith, e))
comes-append (x ∷ c) [] u v e h = absurd (omega (arith, e))
comes-append (x ∷ c) (y ∷ d) u v e h = by_first (nat_cmp x y) h (λ k. comes-append c d u v (omega (arith, e)) k)
  where
    by_first : (o : Ordering) → ordering_then o (slice_cmp nat_cmp c d) ≡ Less → (Comes c d → Comes (c ++ u) (d ++ v)) → ordering_then o (slice_cmp nat_cmp (c ++ u) (d ++ v)) ≡ Less
    by_first Less h ih = refl
    by_first Equal h ih = ih h
    by_first Greater h ih = absurd (cc)

-- of two codes that differ in their last letters the one with the smaller letter comes first
pub comes-last : (c : List ℕ) (x y : ℕ) → x < y → Comes (c ++ (x ∷ [])) (c ++ (y ∷ []))
comes-last [] x y h = ap (λ o. ordering_then o Equal) (less_is x y h)
comes-last (z ∷ c) x y h = ap (λ o. ordering_then o (slice_cmp nat_cmp (c ++ (x ∷ [])) (c ++ (y ∷ [])))) (equal_is z) ∙ comes-last c x y h

-- two rising lists, the first before the second
pub rising-append : (u v : List Code) → AreRising u → AreRising v → AllByRecursion (λ c. AllByRecursion (λ d. Comes c d) v) u → AreRising (u ++ v)
rising-append [] v hu hv h = hv
rising-append (c ∷ u) v hu hv h = (every-append (λ d. Comes c d) u v hu.0 h.0, rising-append u v hu.1 hv h.1)

-- what each code has, one of them has
pub one_of : (P : Code → Type 0) (codes : List Code) → AllByRecursion P codes → (i : ℕ) → i < length codes → P (slice_index_or codes i [])
one_of P [] h i lt = absurd (omega (arith, lt))
one_of P (c ∷ codes) h zero lt = h.0
one_of P (c ∷ codes) h (suc i) lt = one_of P codes h.1 i (omega (arith, lt))

-- rising codes are in order
pub in_order-rising : (codes : List Code) → AreRising codes → IsInOrder codes
in_order-rising [] h i j less lt = absurd (omega (arith, lt))
in_order-rising (c ∷ codes) h i zero less lt = absurd (omega (arith, less))
in_order-rising (c ∷ codes) h zero (suc j) less lt = one_of (λ d. Comes c d) codes h.0 j (omega (arith, lt))
in_order-rising (c ∷ codes) h (suc i) (suc j) less lt = in_order-rising codes h.1 i j (omega (arith, less)) (omega (arith, lt))

-- one of the codes is listed
pub listed-among : (c : Code) (codes : List Code) → IsAmong c codes → IsListed c codes
listed-among c [] h = absurd h
listed-among c (d ∷ codes) (inl e) = (zero, omega arith, e)
listed-among c (d ∷ codes) (inr h) = let k = listed-among c codes h in (suc k.0, omega (arith, k.1), k.2)

-- among two lists
pub among-right : (c : Code) (u v : List Code) → IsAmong c v → IsAmong c (u ++ v)
among-right c [] v h = h
among-right c (d ∷ u) v h = inr (among-right c u v h)

-- among the first of them
pub among-left : (c : Code) (u v : List Code) → IsAmong c u → IsAmong c (u ++ v)
among-left c [] v h = absurd h
among-left c (d ∷ u) v (inl e) = inl e
among-left c (d ∷ u) v (inr h) = inr (among-left c u v h)
