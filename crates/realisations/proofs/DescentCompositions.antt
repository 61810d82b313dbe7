-- The descent composition of a word has its length as its sum, and the places of its descents as its proper partial sums.
use Rattle.std.proofs.Common.{◌≡◌, ℕ, suc, ◌+◌, Bool, true, false, List, [], ◌∷◌, length, refl, sym, ◌∙◌, ap, arith}
use Rattle.std.specs.Prelude.{nat_lt, if◌then◌else◌}
use Rattle.std.specs.List.{sum}
use Rattle.std.proofs.lemmas.List.Sums.{sum_by-cons}
use Rattle.realisations.specs.Descents.{places_where, longer_first, descent_composition, partial_sums}
use Rattle.realisations.specs.Laws.{DescentLaw}

-- there is a part
abbrev HasPart : List ℕ → Type 0
HasPart [] = ⊥
HasPart (i ∷ parts) = Unit {0}

has_part : (x : ℕ) (w : List ℕ) → HasPart (descent_composition (x ∷ w))
has_part x [] = tt
has_part x (y ∷ w) = by_test (nat_lt y x) (descent_composition (y ∷ w))
  where
    by_test : (b : Bool) (parts : List ℕ) → HasPart (if b then 1 ∷ parts else longer_first parts)
    by_test true parts = tt
    by_test false [] = tt
    by_test false (i ∷ parts) = tt

-- a place behind s letters
sums_step : (s : ℕ) (places : List ℕ) (b : Bool) (parts : List ℕ) → HasPart parts → places ≡ partial_sums (suc s) parts
    → (if b then suc s ∷ places else places) ≡ partial_sums s (if b then 1 ∷ parts else longer_first parts)
sums_step s places b [] some e = absurd some
sums_step s places true (j ∷ parts) some e =
    let next : suc s ≡ s + 1 = omega arith in
    ap (λ ps. suc s ∷ ps) e ∙ ap (λ n. n ∷ partial_sums n (j ∷ parts)) next
sums_step s places false (i ∷ []) some e = e
sums_step s places false (i ∷ j ∷ parts) some e =
    let next : suc s + i ≡ s + suc i = omega arith in
    e ∙ ap (λ n. n ∷ partial_sums n (j ∷ parts)) next

descents_behind : (s : ℕ) (w : List ℕ) → places_where (λ x y. nat_lt y x) (suc s) w ≡ partial_sums s (descent_composition w)
descents_behind s [] = refl
descents_behind s (x ∷ []) = refl
descents_behind s (x ∷ y ∷ w) = sums_step s _ (nat_lt y x) (descent_composition (y ∷ w)) (has_part y w) (descents_behind (suc s) (y ∷ w))

sum_step : (n : ℕ) (b : Bool) (parts : List ℕ) → HasPart parts → sum parts ≡ n → sum (if b then 1 ∷ parts else longer_first parts) ≡ suc n
sum_step n b [] some e = absurd some
sum_step n true (i ∷ parts) some e = omega (arith, e, sum_by-cons (λ (k : ℕ). k) 1 (i ∷ parts))
sum_step n false (i ∷ parts) some e = omega (arith, e, sum_by-cons (λ (k : ℕ). k) (suc i) parts, sum_by-cons (λ (k : ℕ). k) i parts)

sum-descent_composition : (w : List ℕ) → sum (descent_composition w) ≡ length w
sum-descent_composition [] = refl
sum-descent_composition (x ∷ []) = refl
sum-descent_composition (x ∷ y ∷ w) = sum_step _ (nat_lt y x) (descent_composition (y ∷ w)) (has_part y w) (sum-descent_composition (y ∷ w))

pub descends : DescentLaw
descends w = (sum-descent_composition w, sym (descents_behind 0 w))
