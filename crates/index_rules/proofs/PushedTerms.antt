-- Steps of pushing the terms of a list one by one.
use Rattle.std.proofs.Common.{◌≡◌, ℕ, ◌+◌, ◌<◌, ◌≤◌, length, [], take, inl, inr, sym, ◌∙◌, ap, arith, unsigned_abs}
use Rattle.std.proofs.Math.IntN.{ℤ, ◌*ℤ◌}
use Rattle.std.proofs.lemmas.Int.{ints}
use Rattle.std.proofs.lemmas.List.{take_all}
use Rattle.index_rules.specs.PushedTerms.{HoldsFirst}
use Rattle.linear_combos.specs.Combos.{IsSumOfTerms}
use Rattle.linear_combos.proofs.Merging.{weighed-more}
use Rattle.linear_combos.proofs.Weights.{norm-more}
use Rattle.realisations.specs.Codes.{Key}
use Rattle.realisations.specs.Combinations.{Combination, AddsTerm, norm_of, term_at, weighed}
use Rattle.realisations.specs.Readings.{Terms}

-- before the first term there are none
pub holds_none : (ts : Terms) (c : Combination) → c.terms ≡ [] → HoldsFirst ts 0 c
holds_none ts c none = record {
  weighs = λ w. ap (weighed w) none;
  norm = omega (arith, ap norm_of none);
  keys = λ key has. absurd (omega (arith, has.1, ap (λ (us : Terms). length us) none));
}

-- one term more
pub holds_next : (ts : Terms) (i : ℕ) (mid new : Combination) (num : ℤ) (key : Key) → i < length ts → num ≡ (term_at ts i).0 → key ≡ (term_at ts i).1 → HoldsFirst ts i mid
    → AddsTerm mid.terms new.terms num key → norm_of new.terms ≤ norm_of mid.terms + unsigned_abs num → HoldsFirst ts (i + 1) new
holds_next ts i mid new num key lt num_is key_is so_far adds norm = record {
  weighs = λ w.
      let term : num *ℤ w key ≡ (term_at ts i).0 *ℤ w (term_at ts i).1 = λ n. num_is n *ℤ w (key_is n) in
      omega (arith, ints, adds.weighs w, so_far.weighs w, weighed-more w ts i lt, term);
  norm = omega (arith, norm, so_far.norm, norm-more ts i lt, ap (λ z. unsigned_abs z) num_is);
  keys = λ k has. elim (adds.keys k has) [
    | inl old ↦ so_far.keys k old
    | inr same ↦ (i, lt, sym (same ∙ key_is))
  ];
}

-- all terms, gathered
pub holds_all : (ts : Terms) (mid new : Combination) (rank : ℕ) → mid.rank ≡ rank → HoldsFirst ts (length ts) mid → IsSumOfTerms mid.rank mid.terms new → IsSumOfTerms rank ts new
holds_all ts mid new rank same is sum =
    let all : take (length ts) ts ≡ ts = take_all (length ts) ts (omega arith) in
    record {
      rank_is = sum.rank_is ∙ same;
      whole = sum.whole;
      gathers = record {
        terms = rw (← same) sum.gathers.terms;
        norm = omega (arith, sum.gathers.norm, is.norm, ap norm_of all);
        weighs = λ w. sum.gathers.weighs w ∙ is.weighs w ∙ ap (weighed w) all;
        keys = λ key has. is.keys key (sum.gathers.keys key has);
      };
    }
