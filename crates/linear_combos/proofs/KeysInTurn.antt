-- Keys are compared code by code, with empty codes behind their own, and then by rank.
use Rattle.std.proofs.Common.{◌≡◌, ℕ, ◌≤◌, List, [], ◌∷◌, length, refl, sym, ◌∙◌, ap, arith}
use Rattle.std.specs.Ordering.{nat_cmp, ordering_then}
use Rattle.std.specs.declared.cmp.Ordering.{Ordering}
use Rattle.std.specs.declared.cmp.Ordering.TheVariants.{Less, Greater}
use Rattle.std.specs.Cmp.Lexicographic.{slice_cmp}
use Rattle.linear_combos.specs.Keys.{code_at, codes_of, IsKey}

-- the order of codes
abbrev pub code_cmp : List ℕ → List ℕ → Ordering
code_cmp a b = slice_cmp nat_cmp a b

-- no letters come before all letters
none_less : (x : List ℕ) (o : Ordering) → o ≡ Less → ordering_then (code_cmp [] x) o ≡ Less
none_less [] o e = e
none_less (x ∷ xs) o e = refl

none_greater : (x : List ℕ) (o : Ordering) → o ≡ Greater → ordering_then (code_cmp x []) o ≡ Greater
none_greater [] o e = e
none_greater (x ∷ xs) o e = refl

-- three codes in turn, and then the rank
abbrev pub in_turn : Ordering → Ordering → Ordering → Ordering → Ordering
in_turn o p q r = ordering_then o (ordering_then p (ordering_then q r))

pub keys_in_turn : (k l : List (List ℕ)) → length k ≤ 3 → length l ≤ 3
    → in_turn (code_cmp (code_at k 0) (code_at l 0)) (code_cmp (code_at k 1) (code_at l 1)) (code_cmp (code_at k 2) (code_at l 2)) (nat_cmp (length k) (length l))
    ≡ slice_cmp (slice_cmp nat_cmp) k l
keys_in_turn [] [] h g = refl
keys_in_turn [] (x ∷ []) h g = none_less x _ refl
keys_in_turn [] (x ∷ y ∷ []) h g = none_less x _ (none_less y _ refl)
keys_in_turn [] (x ∷ y ∷ z ∷ []) h g = none_less x _ (none_less y _ (none_less z _ refl))
keys_in_turn (a ∷ []) [] h g = none_greater a _ refl
keys_in_turn (a ∷ []) (x ∷ []) h g = refl
keys_in_turn (a ∷ []) (x ∷ y ∷ []) h g = ap (ordering_then (code_cmp a x)) (none_less y _ refl)
keys_in_turn (a ∷ []) (x ∷ y ∷ z ∷ []) h g = ap (ordering_then (code_cmp a x)) (none_less y _ (none_less z _ refl))
keys_in_turn (a ∷ b ∷ []) [] h g = none_greater a _ (none_greater b _ refl)
keys_in_turn (a ∷ b ∷ []) (x ∷ []) h g = ap (ordering_then (code_cmp a x)) (none_greater b _ refl)
keys_in_turn (a ∷ b ∷ []) (x ∷ y ∷ []) h g = refl
keys_in_turn (a ∷ b ∷ []) (x ∷ y ∷ z ∷ []) h g = ap (λ o. ordering_then (code_cmp a x) (ordering_then (code_cmp b y) o)) (none_less z _ refl)
keys_in_turn (a ∷ b ∷ c ∷ []) [] h g = none_greater a _ (none_greater b _ (none_greater c _ refl))
keys_in_turn (a ∷ b ∷ c ∷ []) (x ∷ []) h g = ap (ordering_then (code_cmp a x)) (none_greater b _ (none_greater c _ refl))
keys_in_turn (a ∷ b ∷ c ∷ []) (x ∷ y ∷ []) h g = ap (λ o. ordering_then (code_cmp a x) (ordering_then (code_cmp b y) o)) (none_greater c _ refl)
keys_in_turn (a ∷ b ∷ c ∷ []) (x ∷ y ∷ z ∷ []) h g = refl
keys_in_turn (a ∷ b ∷ c ∷ d ∷ k) l h g = absurd (omega arith)
keys_in_turn [] (x ∷ y ∷ z ∷ t ∷ l) h g = absurd (omega arith)
keys_in_turn (a ∷ []) (x ∷ y ∷ z ∷ t ∷ l) h g = absurd (omega arith)
keys_in_turn (a ∷ b ∷ []) (x ∷ y ∷ z ∷ t ∷ l) h g = absurd (omega arith)
keys_in_turn (a ∷ b ∷ c ∷ []) (x ∷ y ∷ z ∷ t ∷ l) h g = absurd (omega arith)

-- the same for keys that hold the codes
pub key_cmp_of : (r : ℕ) (a b c : List ℕ) (s : ℕ) (x y z : List ℕ) (k l : List (List ℕ))
    → IsKey r a b c → codes_of r a b c ≡ k → IsKey s x y z → codes_of s x y z ≡ l
    → in_turn (code_cmp a x) (code_cmp b y) (code_cmp c z) (nat_cmp r s) ≡ slice_cmp (slice_cmp nat_cmp) k l
key_cmp_of r a b c s x y z k l h is_k g is_l =
    (λ i. in_turn (code_cmp (sym h.first_is i) (sym g.first_is i)) (code_cmp (sym h.second_is i) (sym g.second_is i)) (code_cmp (sym h.third_is i) (sym g.third_is i)) (nat_cmp (sym h.rank_is i) (sym g.rank_is i)))
    ∙ keys_in_turn (codes_of r a b c) (codes_of s x y z) (omega (arith, h.rank_is, h.short)) (omega (arith, g.rank_is, g.short))
    ∙ (λ i. slice_cmp (slice_cmp nat_cmp) (is_k i) (is_l i))
