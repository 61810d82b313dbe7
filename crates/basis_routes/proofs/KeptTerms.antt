-- Steps of the counit of a component: the terms whose code there is empty, gathered one by one.
use Rattle.std.proofs.Common.{◌≡◌, ◌≢◌, ℕ, ◌+◌, ◌<◌, ◌≤◌, length, List, [], ◌∷◌, take, inl, inr, refl, sym, ◌∙◌, ap, subst, arith, unsigned_abs}
use Rattle.std.specs.Prelude.{if◌then◌else◌}
use Rattle.std.proofs.Math.IntN.{ℤ, pos, ◌*ℤ◌, *ℤ-one, *ℤ_comm, one}
use Rattle.std.proofs.lemmas.Int.{ints}
use Rattle.std.proofs.lemmas.List.{take_all}
use Rattle.change_laws.specs.Lifts.{code_at, replaced}
use Rattle.linear_combos.specs.Combos.{IsMultiple, IsSumOfTerms}
use Rattle.linear_combos.proofs.Edits.{lowest_one}
use Rattle.linear_combos.proofs.Merging.{weighed-more}
use Rattle.linear_combos.proofs.Weights.{norm-more}
use Rattle.realisations.specs.Codes.{Key}
use Rattle.realisations.specs.Combinations.{Combination, AddsTerm, IsCanonical, norm_of, term_at, weighed}
use Rattle.realisations.specs.Lists.{same_list}
use Rattle.realisations.specs.Readings.{Terms}
use Rattle.basis_routes.specs.KeptTerms.{kept_terms, AreKept, IsKeptWhole, IsKept}

-- what is left of a key
kept_of_empty : (n : ℕ) (key : Key) → code_at n key ≡ [] → kept_terms n key ≡ (pos 1, replaced n [] key) ∷ []
kept_of_empty n key empty =
    let ts : Terms = (pos 1, replaced n [] key) ∷ [] in
    ap (λ (code : List ℕ). if same_list code [] then ts else []) empty

kept_of_other : (n : ℕ) (key : Key) → length (code_at n key) ≢ 0 → kept_terms n key ≡ []
kept_of_other n key other = by_code ((pos 1, replaced n [] key) ∷ []) (code_at n key) other
  where
    by_code : (ts : Terms) (code : List ℕ) → length code ≢ 0 → (if same_list code [] then ts else []) ≡ []
    by_code ts [] other = absurd (other refl)
    by_code ts (x ∷ code) other = refl

-- before the first term there are none
pub none_kept : (n : ℕ) (old c : Combination) (rank : ℕ) → rank + 1 ≡ old.rank → c ≡ record { rank = rank; den = 1; terms = [] } → AreKept n old 0 c
none_kept n old c rank long is =
    subst (AreKept n old 0) (sym is) (record {
      rank = long;
      whole = refl;
      weighs = λ w. refl;
      norm = omega arith;
      keys = λ key has. absurd (omega (arith, has.1));
    })

module _ (n : ℕ) (old : Combination) (i : ℕ) (here : i < length old.terms) (mid : Combination) (so_far : AreKept n old i mid) where
  -- a term whose code is not empty is left out
  pub term_left_out : length (code_at n (term_at old.terms i).1) ≢ 0 → AreKept n old (i + 1) mid
  term_left_out other = record {
    rank = so_far.rank;
    whole = so_far.whole;
    weighs = λ w.
        let nothing : weighed w (kept_terms n (term_at old.terms i).1) ≡ pos 0 = ap (weighed w) (kept_of_other n (term_at old.terms i).1 other) in
        let term : (term_at old.terms i).0 *ℤ weighed w (kept_terms n (term_at old.terms i).1) ≡ (term_at old.terms i).0 *ℤ pos 0 = ap (λ z. (term_at old.terms i).0 *ℤ z) nothing in
        omega (arith, ints, so_far.weighs w, weighed-more (λ key. weighed w (kept_terms n key)) old.terms i here, term);
    norm = omega (arith, so_far.norm, norm-more old.terms i here);
    keys = so_far.keys;
  }

  -- the norm with the next term
  pub term_room : norm_of mid.terms + unsigned_abs (term_at old.terms i).0 ≤ norm_of (take (i + 1) old.terms)
  term_room = omega (arith, so_far.norm, norm-more old.terms i here)

  -- one whose code is empty is added without it
  pub term_kept : (new : Combination) (num : ℤ) (key : Key) → num ≡ (term_at old.terms i).0 → key ≡ replaced n [] (term_at old.terms i).1 → code_at n (term_at old.terms i).1 ≡ []
      → AddsTerm mid.terms new.terms num key → norm_of new.terms ≤ norm_of mid.terms + unsigned_abs num → new.rank ≡ mid.rank → new.den ≡ mid.den → AreKept n old (i + 1) new
  term_kept new num key num_is key_is empty adds norm rank den = record {
    rank = ap (λ r. r + 1) rank ∙ so_far.rank;
    whole = den ∙ so_far.whole;
    weighs = λ w.
        let one_term : weighed w ((pos 1, replaced n [] (term_at old.terms i).1) ∷ []) ≡ w (replaced n [] (term_at old.terms i).1) = omega (arith, ints) in
        let left : weighed w (kept_terms n (term_at old.terms i).1) ≡ w key = ap (weighed w) (kept_of_empty n (term_at old.terms i).1 empty) ∙ one_term ∙ ap w (sym key_is) in
        let term : (term_at old.terms i).0 *ℤ weighed w (kept_terms n (term_at old.terms i).1) ≡ num *ℤ w key = λ j. sym num_is j *ℤ left j in
        omega (arith, ints, adds.weighs w, so_far.weighs w, weighed-more (λ k. weighed w (kept_terms n k)) old.terms i here, term);
    norm = omega (arith, norm, so_far.norm, norm-more old.terms i here, ap (λ z. unsigned_abs z) num_is);
    keys = λ k has. elim (adds.keys k has) [
      | inl before ↦ so_far.keys k before
      | inr same ↦ record { key = (term_at old.terms i).1; has = (i, here, refl); empty = empty; is = same ∙ key_is }
    ];
  }

-- all terms, gathered
pub all_kept : (n : ℕ) (old mid new : Combination) → AreKept n old (length old.terms) mid → IsSumOfTerms mid.rank mid.terms new → IsKeptWhole n old new
all_kept n old mid new is sum = record {
  canonical = subst (λ r. IsCanonical r new.den new.terms) (sym sum.rank_is) (subst (λ d. IsCanonical mid.rank d new.terms) (sym sum.whole) (record { ordered = sum.gathers.terms; lowest = lowest_one new.terms }));
  all = record {
    rank = ap (λ r. r + 1) sum.rank_is ∙ is.rank;
    whole = sum.whole;
    weighs = λ w. sum.gathers.weighs w ∙ is.weighs w;
    norm = omega (arith, sum.gathers.norm, is.norm);
    keys = λ key has. is.keys key (sum.gathers.keys key has);
  };
}

-- over the denominator
pub kept_over : (n : ℕ) (old whole new : Combination) (den : ℕ) → den ≡ old.den → IsKeptWhole n old whole → IsCanonical new.rank new.den new.terms → IsMultiple whole (record { num = pos 1; den = den }) new → IsKept n old new
unfolding one
kept_over n old whole new den same is canonical over = record {
  canonical = canonical;
  rank = ap (λ r. r + 1) over.rank ∙ is.all.rank;
  weighs = λ w.
      let dens : pos old.den ≡ pos whole.den *ℤ pos den =
      ap pos (sym same) ∙ sym (*ℤ-one (pos den)) ∙ *ℤ_comm (pos den) (pos 1) ∙ ap (λ m. pos m *ℤ pos den) (sym is.all.whole) in
      ap (λ z. weighed w new.terms *ℤ z) dens
      ∙ over.weighs w
      ∙ ap (λ z. z *ℤ pos new.den) (*ℤ-one _ ∙ is.all.weighs w ∙ ap (weighed (λ key. weighed w (kept_terms n key))) (take_all (length old.terms) old.terms (omega arith)));
  keys = λ key has. is.all.keys key (over.keys key has);
}

pub empty_code : (code : List ℕ) → length code ≡ 0 → code ≡ []
empty_code [] e = refl
empty_code (x ∷ code) e = absurd (omega (arith, e))
