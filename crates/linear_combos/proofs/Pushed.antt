-- Terms pushed in any order.
use Rattle.std.proofs.Common.{◌≡◌, ℕ, ◌+◌, ◌^◌, ◌<◌, List, [], ◌∷◌, ◌++◌, length, refl, sym, ap, subst, arith, unsigned_abs}
use Rattle.std.proofs.Math.IntN.{ℤ}
use Rattle.std.proofs.lemmas.List.Sums.{sum_by-insert}
use Rattle.realisations.specs.Readings.{Terms}
use Rattle.realisations.specs.Combinations.{norm_of}
use Rattle.linear_combos.specs.Combos.{HasRank, Gathers}
use Rattle.linear_combos.specs.Gathering.{IsPushed}
use Rattle.linear_combos.proofs.Edits.{insert_each}
use Rattle.linear_combos.proofs.LowestCombos.{push-insert}

-- nothing pushed yet
pub pushed_none : (rank : ℕ) → IsPushed rank [] 0
pushed_none rank = record { ranks = λ i lt. absurd (omega arith); norm_is = refl; small = omega arith }

-- one term more
pub pushed_more : (rank : ℕ) (ts : Terms) (norm : ℕ) (num : ℤ) (key : List (List ℕ)) → IsPushed rank ts norm → length key ≡ rank
    → norm_of ts + unsigned_abs num < 2 ^ 127 → IsPushed rank (ts ++ (num, key) ∷ []) (norm + unsigned_abs num)
pushed_more rank ts norm num key old ranked room =
    let size = ap norm_of (push-insert ts num key) in
    let more = sum_by-insert (λ (t : ℤ × List (List ℕ)). unsigned_abs t.0) ts (length ts) (num, key) in
    record {
      ranks = subst (HasRank rank) (sym (push-insert ts num key)) (insert_each ts (length ts) (num, key) (omega arith) (λ t. length t.1 ≡ rank) old.ranks ranked);
      norm_is = omega (arith, old.norm_is, size, more);
      small = omega (arith, size, more);
    }

-- gathered terms
pub pushed_gathered : (rank : ℕ) (ts us : Terms) (norm : ℕ) → Gathers rank ts us → norm ≡ norm_of us → IsPushed rank us norm
pushed_gathered rank ts us norm g is = record { ranks = g.terms.ranks; norm_is = is; small = g.terms.small }
