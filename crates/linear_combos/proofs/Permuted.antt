-- What does not depend on the order of terms.
use Rattle.std.proofs.Common.{◌≡◌, ℕ, suc, List, [], ◌∷◌, length, sym, ◌∙◌, ap, subst, arith, unsigned_abs}
use Rattle.std.proofs.Math.IntN.{ℤ, pos, negsuc, ◌+ℤ◌, ◌*ℤ◌}
use Rattle.std.specs.List.{sum_by}
use Rattle.std.specs.List.Sorted.{IsPermutation}
use Rattle.std.proofs.lemmas.Int.{ints}
use Rattle.std.proofs.lemmas.List.{get_or_default}
use Rattle.std.proofs.lemmas.List.Sums.{sum_by-cons}
use Rattle.std.proofs.lemmas.List.Sorted.{IsPermutation-sym, sum_by-IsPermutation, All-permutation, Contains-permutation}
use Rattle.realisations.specs.Readings.{Terms}
use Rattle.realisations.specs.Combinations.{term_at, norm_of, weighed, HasKey}
use Rattle.linear_combos.specs.Combos.{HasRank, Gathers}

-- an integer is a difference of two numbers
above : ℤ → ℕ
above (pos n) = n
above (negsuc n) = 0

below : ℤ → ℕ
below (pos n) = 0
below (negsuc n) = suc n

difference : (z : ℤ) → z +ℤ pos (below z) ≡ pos (above z)
unfolding above below
difference (pos n) = omega (arith, ints)
difference (negsuc n) = omega (arith, ints)

-- so a weighed sum is one of two sums
weighed_difference : (w : List (List ℕ) → ℤ) (ts : Terms)
    → weighed w ts +ℤ pos (sum_by (λ t. below (t.0 *ℤ w t.1)) ts) ≡ pos (sum_by (λ t. above (t.0 *ℤ w t.1)) ts)
weighed_difference w [] = omega (arith, ints)
weighed_difference w (t ∷ ts) =
    omega (
      arith,
      ints,
      difference (t.0 *ℤ w t.1),
      weighed_difference w ts,
      sum_by-cons (λ (u : ℤ × List (List ℕ)). below (u.0 *ℤ w u.1)) t ts,
      sum_by-cons (λ (u : ℤ × List (List ℕ)). above (u.0 *ℤ w u.1)) t ts,
    )

module _ (ts us : Terms) (moved : IsPermutation ts us) where
  pub weighed-permutation : (w : List (List ℕ) → ℤ) → weighed w us ≡ weighed w ts
  weighed-permutation w =
      omega (
        arith,
        ints,
        weighed_difference w ts,
        weighed_difference w us,
        sum_by-IsPermutation (λ (u : ℤ × List (List ℕ)). below (u.0 *ℤ w u.1)) ts us moved,
        sum_by-IsPermutation (λ (u : ℤ × List (List ℕ)). above (u.0 *ℤ w u.1)) ts us moved,
      )

  pub norm-permutation : norm_of us ≡ norm_of ts
  norm-permutation = sum_by-IsPermutation (λ t. unsigned_abs t.0) ts us moved

  pub ranks-permutation : (rank : ℕ) → HasRank rank ts → HasRank rank us
  ranks-permutation rank old i lt =
      All-permutation (λ (t : ℤ × List (List ℕ)). length t.1 ≡ rank) ts us moved
      (λ k d in_range. subst (λ (t : ℤ × List (List ℕ)). length t.1 ≡ rank) (get_or_default ts k (pos 0, []) d in_range) (old k in_range)) i (pos 0, []) lt

  pub keys-permutation : (key : List (List ℕ)) → HasKey us key → HasKey ts key
  keys-permutation key (i, lt, e) =
      let t = term_at us i in
      let there = Contains-permutation us ts t (IsPermutation-sym ts us moved) (i, lt, sym (get_or_default us i (pos 0, []) t lt)) in
      (there.0, there.1, ap (λ (u : ℤ × List (List ℕ)). u.1) (get_or_default ts there.0 (pos 0, []) t there.1 ∙ there.2) ∙ e)

  -- what gathers the terms in one order gathers them in another
  pub Gathers-permutation : (rank : ℕ) (vs : Terms) → Gathers rank us vs → Gathers rank ts vs
  Gathers-permutation rank vs g = record {
    terms = g.terms;
    norm = omega (arith, g.norm, norm-permutation);
    weighs = λ w. g.weighs w ∙ weighed-permutation w;
    keys = λ key has. keys-permutation key (g.keys key has);
  }
