-- Sorted terms: one pass adds neighbours with equal keys, in place.
use Rattle.std.proofs.Common.{◌≡◌, ◌≢◌, false, ℕ, zero, suc, ◌+◌, ◌-◌, ◌^◌, ◌<◌, ◌≤◌, List, [], ◌∷◌, ◌++◌, length, set, take, drop, inl, inr, refl, sym, ◌∙◌, ap, subst, arith, unsigned_abs, get_or-set_same, length-set}
use Rattle.std.proofs.Math.IntN.{ℤ, pos, negsuc, ◌+ℤ◌, ◌*ℤ◌, zero-*ℤ}
use Rattle.std.specs.Ordering.{is_lt, ordering_reverse}
use Rattle.std.specs.declared.cmp.Ordering.{Ordering}
use Rattle.std.specs.declared.cmp.Ordering.TheVariants.{Less, Equal, Greater}
use Rattle.std.proofs.lemmas.Int.{ints}
use Rattle.std.proofs.lemmas.List.{append-nil, take_all, take_more, take-set-le, drop-set-lt, get_or-drop}
use Rattle.std.proofs.lemmas.Grind.{drop_more_same}
use Rattle.std.proofs.lemmas.List.Sums.{sum_by-insert}
use Rattle.linear_combos.proofs.Weights.{norm-more, norm-part}
use Rattle.hopf_num.proofs.SumsOfProducts.{abs_sum}
use Rattle.hopf_num.proofs.Ring.{+ℤ-*ℤ}
use Rattle.realisations.specs.Readings.{Terms}
use Rattle.realisations.specs.Combinations.{key_cmp, term_at, norm_of, weighed, HasRisingKeys, HasKey, terms_of, AddsTerm}
use Rattle.realisations.proofs.KeyOrders.{key_order, same_key}
use Rattle.linear_combos.specs.Combos.{IsGapFor, HasRank, Gathers}
use Rattle.linear_combos.specs.Gathering.{IsSortedByKeys, IsPending, IsInFront, IsStep, added, over, behind, kept}
use Rattle.linear_combos.proofs.Edits.{insert_rising, insert_each}
use Rattle.linear_combos.proofs.LowestCombos.{push-insert, adds-push}
use Rattle.linear_combos.proofs.Merging.{last_gap, weighed-more}

-- terms with rising keys and no numerator 0, to which the numerator times a greater key was added
record PutsLast (us new : Terms) (num : ℤ) (key : List (List ℕ)) : Type 0 where
  rising : HasRisingKeys new
  nonzero : (j : ℕ) → j < length new → (term_at new j).0 ≢ pos 0
  adds : AddsTerm us new num key
  norm : norm_of new ≤ norm_of us + unsigned_abs num

module _ (us : Terms) (num : ℤ) (key : List (List ℕ)) (rising : HasRisingKeys us) (nonzero : (j : ℕ) → j < length us → (term_at us j).0 ≢ pos 0) (gap : IsGapFor us key (length us)) where
  -- numerator 0
  put_none : num ≡ pos 0 → PutsLast us us num key
  put_none e = record {
    rising = rising;
    nonzero = nonzero;
    adds = record { weighs = λ w. rw e (omega (arith, ints, zero-*ℤ (w key))); keys = λ k has. inl has };
    norm = omega arith;
  }

  -- another one
  put_new : num ≢ pos 0 → PutsLast us (us ++ (num, key) ∷ []) num key
  put_new some =
      let as_insert = push-insert us num key in
      record {
        rising = subst HasRisingKeys (sym as_insert) (insert_rising us (length us) (num, key) gap.in_range rising gap);
        nonzero = subst (λ (l : Terms). (j : ℕ) → j < length l → (term_at l j).0 ≢ pos 0) (sym as_insert)
            (insert_each us (length us) (num, key) gap.in_range (λ t. t.0 ≢ pos 0) nonzero some);
        adds = adds-push us (us ++ (num, key) ∷ []) num key refl;
        norm = omega (arith, ap norm_of as_insert, sum_by-insert (λ t. unsigned_abs t.0) us (length us) (num, key));
      }

-- any numerator
put_terms_of : (us : Terms) (num : ℤ) (key : List (List ℕ)) → HasRisingKeys us → ((j : ℕ) → j < length us → (term_at us j).0 ≢ pos 0) → IsGapFor us key (length us)
    → PutsLast us (us ++ terms_of num key) num key
put_terms_of us (pos zero) key rising nonzero gap = subst (λ (l : Terms). PutsLast us l (pos zero) key) (sym (append-nil us)) (put_none us (pos zero) key rising nonzero gap refl)
put_terms_of us (pos (suc n)) key rising nonzero gap = put_new us (pos (suc n)) key rising nonzero gap (λ e. absurd (omega (arith, ints)))
put_terms_of us (negsuc n) key rising nonzero gap = put_new us (negsuc n) key rising nonzero gap (λ e. absurd (omega (arith, ints)))

-- a key that is there is smaller than one that would go behind all
smaller_than : (us : Terms) (key k : List (List ℕ)) → IsGapFor us key (length us) → HasKey us k → key_cmp k key ≡ Less
smaller_than us key k gap (i, lt, e) = subst (λ x. key_cmp x key ≡ Less) e (gap.smaller_before i lt)

-- a greater key goes behind a term that was put behind others
gap_behind : (us new : Terms) (num : ℤ) (key next : List (List ℕ)) → IsGapFor us key (length us) → PutsLast us new num key → key_cmp key next ≡ Less
    → IsGapFor new next (length new)
gap_behind us new num key next gap put less = last_gap new next (λ k has. elim (put.adds.keys k has) [
  | inl old ↦ key_order.trans k key next (smaller_than us key k gap old) less
  | inr same ↦ subst (λ x. key_cmp x next ≡ Less) (sym same) less
])

-- a pending term and the next one have room together
pub pending_room : (ts : Terms) (i : ℕ) (us : Terms) (num : ℤ) (key : List (List ℕ)) → IsPending ts i us num key → i < length ts → norm_of ts < 2 ^ 127
    → unsigned_abs num + unsigned_abs (term_at ts i).0 < 2 ^ 127
pending_room ts i us num key p lt room =
    omega (arith, p.norm, norm-more ts i lt, norm-part ts (i + 1))

-- the first term alone
pending_first : (ts : Terms) → 1 ≤ length ts → IsPending ts 1 [] (term_at ts 0).0 (term_at ts 0).1
pending_first ts lt =
    let some : 0 < length ts = omega arith in
    record {
      started = omega arith;
      in_range = lt;
      rising = λ i j less in_range. absurd (omega arith);
      nonzero = λ j in_range. absurd (omega arith);
      gap = last_gap [] (term_at ts 0).1 (λ k has. absurd (omega (arith, has.1)));
      current = refl;
      norm = omega (arith, norm-more ts 0 some);
      weighs = λ w. sym (weighed-more w ts 0 some);
      keys = λ k has. absurd (omega (arith, has.1));
    }

-- one term more with the same key
pending_more : (ts : Terms) (i : ℕ) (us : Terms) (num total : ℤ) (key : List (List ℕ)) → IsPending ts i us num key → i < length ts
    → key ≡ (term_at ts i).1 → total ≡ num +ℤ (term_at ts i).0 → IsPending ts (i + 1) us total key
pending_more ts i us num total key p lt same is =
    let back : i + 1 - 1 ≡ i = omega arith in
    record {
      started = omega arith;
      in_range = omega arith;
      rising = p.rising;
      nonzero = p.nonzero;
      gap = p.gap;
      current = same ∙ ap (λ n. (term_at ts n).1) (sym back);
      norm = omega (arith, p.norm, norm-more ts i lt, abs_sum num (term_at ts i).0, ap unsigned_abs is);
      weighs = λ w.
          let spread : total *ℤ w key ≡ num *ℤ w key +ℤ (term_at ts i).0 *ℤ w (term_at ts i).1 =
          ap (λ z. z *ℤ w key) is ∙ +ℤ-*ℤ num (term_at ts i).0 (w key) ∙ ap (λ k. num *ℤ w key +ℤ (term_at ts i).0 *ℤ w k) same in
          omega (arith, ints, spread, p.weighs w, weighed-more w ts i lt);
      keys = p.keys;
    }

-- a greater key: the pending term was put behind the others, and the next one is pending
pending_next : (ts : Terms) (i : ℕ) (us new : Terms) (num : ℤ) (key : List (List ℕ)) → IsPending ts i us num key → i < length ts
    → key_cmp key (term_at ts i).1 ≡ Less → PutsLast us new num key → IsPending ts (i + 1) new (term_at ts i).0 (term_at ts i).1
pending_next ts i us new num key p lt less put =
    let back : i + 1 - 1 ≡ i = omega arith in
    record {
      started = omega arith;
      in_range = omega arith;
      rising = put.rising;
      nonzero = put.nonzero;
      gap = gap_behind us new num key (term_at ts i).1 p.gap put less;
      current = ap (λ n. (term_at ts n).1) (sym back);
      norm = omega (arith, p.norm, put.norm, norm-more ts i lt);
      weighs = λ w. omega (arith, ints, put.adds.weighs w, p.weighs w, weighed-more w ts i lt);
      keys = λ k has. elim (put.adds.keys k has) [
        | inl old ↦ p.keys k old
        | inr is ↦ (i - 1, omega (arith, p.started), sym (is ∙ p.current))
      ];
    }

-- the last pending term was put behind the others
pending_last : (rank : ℕ) (ts us new : Terms) (num : ℤ) (key : List (List ℕ)) → HasRank rank ts → norm_of ts < 2 ^ 127 → IsPending ts (length ts) us num key → PutsLast us new num key
    → Gathers rank ts new
pending_last rank ts us new num key ranks room p put =
    let all = take_all (length ts) ts (omega arith) in
    let small : norm_of new ≤ norm_of ts = omega (arith, p.norm, put.norm, ap norm_of all) in
    let keys : (k : List (List ℕ)) → HasKey new k → HasKey ts k = (λ k has. elim (put.adds.keys k has) [
      | inl old ↦ p.keys k old
      | inr is ↦ (length ts - 1, omega (arith, p.started), sym (is ∙ p.current))
    ]) in
    record {
      terms = record {
        rising = put.rising;
        nonzero = put.nonzero;
        ranks = λ j lt. let (k, in_range, is) = keys (term_at new j).1 (j, lt, refl) in ap length (sym is) ∙ ranks k in_range;
        small = omega (arith, small, room);
      };
      norm = small;
      weighs = λ w. put.adds.weighs w ∙ p.weighs w ∙ ap (weighed w) all;
      keys = keys;
    }

-- in sorted terms the next key is not smaller
by_order : (o : Ordering) → (o ≡ Equal → ⊥) → (o ≡ Greater → ⊥) → o ≡ Less
by_order Less f g = refl
by_order Equal f g = absurd (f refl)
by_order Greater f g = absurd (g refl)

next_less : (ts : Terms) (i : ℕ) (us : Terms) (num : ℤ) (key : List (List ℕ)) → IsPending ts i us num key → i < length ts → IsSortedByKeys ts
    → (key ≡ (term_at ts i).1 → ⊥) → key_cmp key (term_at ts i).1 ≡ Less
next_less ts i us num key p lt sorted other =
    let there : i - 1 + 1 ≡ i = omega (arith, p.started) in
    let up : is_lt (key_cmp (term_at ts i).1 key) ≡ false =
    ap (λ k. is_lt (key_cmp (term_at ts i).1 k)) p.current ∙ ap (λ n. is_lt (key_cmp (term_at ts n).1 (term_at ts (i - 1)).1)) (sym there)
    ∙ sorted (i - 1) (pos 0, []) (omega arith) (omega arith) in
    by_order (key_cmp key (term_at ts i).1) (λ e. other (same_key _ _ e)) (λ e.
    let turned : key_cmp (term_at ts i).1 key ≡ Less = key_order.antisymm (term_at ts i).1 key ∙ ap ordering_reverse e in
    absurd (cc (ap is_lt turned)))

-- before the first step
pub front_first : (ts : Terms) → 1 ≤ length ts → IsInFront ts 1 0 ts
front_first ts some = record { earlier = omega arith; same_length = refl; rest = refl; pending = pending_first ts some }

module _ (ts now : Terms) (i last : ℕ) (p : IsInFront ts i last now) (lt : i < length ts) where
  -- the next term is where it was
  pub next_term : term_at now i ≡ term_at ts i
  next_term =
      let at : i + 0 ≡ i = omega arith in
      ap (term_at now) (sym at) ∙ sym (get_or-drop i now 0 (pos 0, [])) ∙ ap (λ (l : Terms). term_at l 0) p.rest ∙ get_or-drop i ts 0 (pos 0, []) ∙ ap (term_at ts) at

  -- what is left after it, where a term before was changed
  rest_after : (at : ℕ) (t : ℤ × List (List ℕ)) → at < i + 1 → drop (i + 1) (set now at t) ≡ drop (i + 1) ts
  rest_after at t below = drop-set-lt (i + 1) now at t below ∙ drop_more_same now ts i p.rest

  step_added : (new : Terms) → (term_at now last).1 ≡ (term_at now i).1 → new ≡ set now last ((term_at now last).0 +ℤ (term_at now i).0, (term_at now i).1) → IsInFront ts (i + 1) last new
  step_added new same is =
      let t : ℤ × List (List ℕ) = ((term_at now last).0 +ℤ (term_at now i).0, (term_at now i).1) in
      let here : last < length now = omega (arith, p.earlier, p.same_length) in
      let front : take last new ≡ take last now = ap (take last) is ∙ take-set-le last now last t (omega arith) in
      let read : term_at new last ≡ t = ap (λ (l : Terms). term_at l last) is ∙ get_or-set_same now last t (pos 0, []) here in
      let num : (term_at new last).0 ≡ (term_at now last).0 +ℤ (term_at ts i).0 = ap (λ (u : ℤ × List (List ℕ)). u.0) read ∙ ap (λ (u : ℤ × List (List ℕ)). (term_at now last).0 +ℤ u.0) next_term in
      let key : (term_at new last).1 ≡ (term_at now last).1 = ap (λ (u : ℤ × List (List ℕ)). u.1) read ∙ sym same in
      let more = pending_more ts i (take last now) (term_at now last).0 (term_at new last).0 (term_at now last).1 p.pending lt (same ∙ ap (λ (u : ℤ × List (List ℕ)). u.1) next_term) num in
      record {
        earlier = omega (arith, p.earlier);
        same_length = ap length is ∙ length-set now last t ∙ p.same_length;
        rest = ap (drop (i + 1)) is ∙ rest_after last t (omega (arith, p.earlier));
        pending = subst (λ (us : Terms). IsPending ts (i + 1) us (term_at new last).0 (term_at new last).1) (sym front)
            (subst (IsPending ts (i + 1) (take last now) (term_at new last).0) (sym key) more);
      }

  -- the next term as the one at a place, once the pending one was put behind the others
  step_next : (new : Terms) (at : ℕ) → at ≤ i → IsSortedByKeys ts → (term_at now last).1 ≢ (term_at now i).1 → new ≡ set now at (term_at now i)
      → PutsLast (take last now) (take at now) (term_at now last).0 (term_at now last).1 → IsInFront ts (i + 1) at new
  step_next new at within sorted other is put =
      let here : at < length now = omega (arith, within, lt, p.same_length) in
      let front : take at new ≡ take at now = ap (take at) is ∙ take-set-le at now at (term_at now i) (omega arith) in
      let read : term_at new at ≡ term_at ts i = ap (λ (l : Terms). term_at l at) is ∙ get_or-set_same now at (term_at now i) (pos 0, []) here ∙ next_term in
      let less = next_less ts i (take last now) (term_at now last).0 (term_at now last).1 p.pending lt sorted (λ e. other (e ∙ ap (λ (u : ℤ × List (List ℕ)). u.1) (sym next_term))) in
      let next = pending_next ts i (take last now) (take at now) (term_at now last).0 (term_at now last).1 p.pending lt less put in
      record {
        earlier = omega (arith, within);
        same_length = ap length is ∙ length-set now at (term_at now i) ∙ p.same_length;
        rest = ap (drop (i + 1)) is ∙ rest_after at (term_at now i) (omega (arith, within));
        pending = subst (λ (us : Terms). IsPending ts (i + 1) us (term_at new at).0 (term_at new at).1) (sym front)
            (subst (λ (t : ℤ × List (List ℕ)). IsPending ts (i + 1) (take at now) t.0 t.1) (sym read) next);
      }

  -- each step keeps the sum in front
  pub front_step : (new : Terms) (next : ℕ) → IsSortedByKeys ts → IsStep now last i new next → IsInFront ts (i + 1) next new
  front_step new next sorted (added same is at) = subst (λ n. IsInFront ts (i + 1) n new) (sym at) (step_added new same is)
  front_step new next sorted (over other none is at) =
      let put = put_none (take last now) (term_at now last).0 (term_at now last).1 p.pending.rising p.pending.nonzero p.pending.gap none in
      subst (λ n. IsInFront ts (i + 1) n new) (sym at) (step_next new last (omega (arith, p.earlier)) sorted other is put)
  front_step new next sorted (behind other some is at) =
      let here : last < length now = omega (arith, p.earlier, p.same_length) in
      let put = put_new (take last now) (term_at now last).0 (term_at now last).1 p.pending.rising p.pending.nonzero p.pending.gap some in
      let more : take (last + 1) now ≡ take last now ++ (term_at now last) ∷ [] = take_more now last (pos 0, []) here in
      subst (λ n. IsInFront ts (i + 1) n new) (sym at)
      (step_next new (last + 1) (omega (arith, p.earlier)) sorted other is
      (subst (λ (us : Terms). PutsLast (take last now) us (term_at now last).0 (term_at now last).1) (sym more) put))

-- once all terms are in front, what is kept gathers them
pub front_kept : (rank : ℕ) (ts now : Terms) (last : ℕ) → HasRank rank ts → norm_of ts < 2 ^ 127 → IsInFront ts (length ts) last now → Gathers rank ts (kept now last)
front_kept rank ts now last ranks room p =
    pending_last rank ts (take last now) (kept now last) (term_at now last).0 (term_at now last).1 ranks room p.pending
    (put_terms_of (take last now) (term_at now last).0 (term_at now last).1 p.pending.rising p.pending.nonzero p.pending.gap)

-- what is kept is a front of the terms
pub kept_none : (now : Terms) (last : ℕ) → (term_at now last).0 ≡ pos 0 → kept now last ≡ take last now
kept_none now last none = ap (λ n. take last now ++ terms_of n (term_at now last).1) none ∙ append-nil (take last now)

terms_of_some : (num : ℤ) (key : List (List ℕ)) → num ≢ pos 0 → terms_of num key ≡ (num, key) ∷ []
terms_of_some (pos zero) key some = absurd (some refl)
terms_of_some (pos (suc n)) key some = refl
terms_of_some (negsuc n) key some = refl

pub kept_some : (now : Terms) (last : ℕ) → last < length now → (term_at now last).0 ≢ pos 0 → kept now last ≡ take (last + 1) now
kept_some now last lt some =
    ap (λ us. take last now ++ us) (terms_of_some (term_at now last).0 (term_at now last).1 some) ∙ sym (take_more now last (pos 0, []) lt)
