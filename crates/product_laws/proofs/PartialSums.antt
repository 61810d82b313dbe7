-- Partial sums of a concatenation of compositions.
use Rattle.std.proofs.Common.{◌≡◌, ℕ, ◌+◌, ◌<◌, Bool, true, false, List, [], ◌∷◌, ◌++◌, refl, ◌∙◌, ap, arith}
use Rattle.std.specs.Prelude.{nat_eq, ◌||◌}
use Rattle.std.specs.List.{sum}
use Rattle.std.proofs.lemmas.Bool.{eq-eqb, ne_eqb, or_left, or_right, or_from}
use Rattle.std.proofs.lemmas.Bool.Decides.{nat_tests}
use Rattle.realisations.specs.Descents.{partial_sums}
use Rattle.realisations.specs.Lists.{is_among}
use Rattle.product_laws.proofs.Parts.{HasPart, sum-cons}

-- partial sums after s are at least s
pub none_below : (parts : List ℕ) (s a : ℕ) → a < s → is_among a (partial_sums s parts) ≡ false
none_below [] s a h = refl
none_below (i ∷ []) s a h = refl
none_below (i ∷ j ∷ parts) s a h =
    or_from (nat_eq (s + i) a) (is_among a (partial_sums (s + i) (j ∷ parts))) (ne_eqb (s + i) a (λ e. omega (arith, e, h))) (none_below (j ∷ parts) (s + i) a (omega (arith, h)))

no_first : (n a : ℕ) (rest : Bool) → (n ≡ a → ⊥) → nat_eq n a || rest ≡ rest
no_first n a rest other = ap (λ b. b || rest) (ne_eqb n a other)

-- below the sum of the first composition they are those of this one
pub sums_before : (parts k : List ℕ) (s a : ℕ) → HasPart parts → HasPart k → a < s + sum parts → is_among a (partial_sums s (parts ++ k)) ≡ is_among a (partial_sums s parts)
sums_before [] k s a some some' h = absurd some
sums_before (i ∷ []) [] s a some some' h = absurd some'
sums_before (i ∷ []) (j ∷ k) s a some some' h =
    let below : a < s + i = omega (arith, h, sum-cons i []) in
    or_from (nat_eq (s + i) a) (is_among a (partial_sums (s + i) (j ∷ k))) (ne_eqb (s + i) a (λ e. omega (arith, e, below))) (none_below (j ∷ k) (s + i) a below)
sums_before (i ∷ j ∷ parts) k s a some some' h =
    ap (λ b. nat_eq (s + i) a || b) (sums_before (j ∷ parts) k (s + i) a tt some' (omega (arith, h, sum-cons i (j ∷ parts))))

-- this sum is one of them
pub sum_among : (parts k : List ℕ) (s a : ℕ) → HasPart parts → HasPart k → a ≡ s + sum parts → is_among a (partial_sums s (parts ++ k)) ≡ true
sum_among [] k s a some some' e = absurd some
sum_among (i ∷ []) [] s a some some' e = absurd some'
sum_among (i ∷ []) (j ∷ k) s a some some' e =
    or_left (nat_eq (s + i) a) (is_among a (partial_sums (s + i) (j ∷ k))) (eq-eqb (s + i) a (omega (arith, e, sum-cons i [])))
sum_among (i ∷ j ∷ parts) k s a some some' e =
    or_right (nat_eq (s + i) a) (is_among a (partial_sums (s + i) (j ∷ (parts ++ k)))) (sum_among (j ∷ parts) k (s + i) a tt some' (omega (arith, e, sum-cons i (j ∷ parts))))

-- above it they are those of the second composition, after this sum
pub sums_after : (parts k : List ℕ) (s t a : ℕ) → HasPart parts → HasPart k → t ≡ s + sum parts → t < a → is_among a (partial_sums s (parts ++ k)) ≡ is_among a (partial_sums t k)
sums_after [] k s t a some some' e h = absurd some
sums_after (i ∷ []) [] s t a some some' e h = absurd some'
sums_after (i ∷ []) (j ∷ k) s t a some some' e h =
    let at : s + i ≡ t = omega (arith, e, sum-cons i []) in
    no_first (s + i) a (is_among a (partial_sums (s + i) (j ∷ k))) (λ f. omega (arith, f, h, at))
    ∙ ap (λ n. is_among a (partial_sums n (j ∷ k))) at
sums_after (i ∷ j ∷ parts) k s t a some some' e h =
    no_first (s + i) a (is_among a (partial_sums (s + i) (j ∷ (parts ++ k)))) (λ f. omega (arith, f, h, e, sum-cons i (j ∷ parts)))
    ∙ sums_after (j ∷ parts) k (s + i) t a tt some' (omega (arith, e, sum-cons i (j ∷ parts))) h

-- partial sums after a larger sum are larger
pub sums_raised : (parts : List ℕ) (c s t a b : ℕ) → t ≡ c + s → b ≡ c + a → is_among b (partial_sums t parts) ≡ is_among a (partial_sums s parts)
sums_raised [] c s t a b e f = refl
sums_raised (i ∷ []) c s t a b e f = refl
sums_raised (i ∷ j ∷ parts) c s t a b e f =
    let first : nat_eq (t + i) b ≡ nat_eq (s + i) a = same c s t i a b e f in
    let rest = sums_raised (j ∷ parts) c (s + i) (t + i) a b (omega (arith, e)) f in
    λ k. first k || rest k
  where
    same : (c s t i a b : ℕ) → t ≡ c + s → b ≡ c + a → nat_eq (t + i) b ≡ nat_eq (s + i) a
    same c s t i a b e f = grind (arith, nat_tests, e, f)
