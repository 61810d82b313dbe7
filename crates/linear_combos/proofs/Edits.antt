-- Edits of terms keep them canonical, and bring in no key but the new one.
use Rattle.std.proofs.Common.{◌≡◌, ◌≢◌, ◌⊎◌, ℕ, ◌+◌, ◌-◌, ◌^◌, ◌<◌, ◌≤◌, List, [], length, set, inl, inr, refl, sym, ◌∙◌, ap, subst, arith, unsigned_abs, get_or-set_other, get_or-set_same, length-set}
use Rattle.std.proofs.Math.IntN.{ℤ, pos}
use Rattle.std.specs.declared.cmp.Ordering.TheVariants.{Less}
use Rattle.std.specs.List.{insert, remove}
use Rattle.std.proofs.lemmas.Bool.{cases_lt}
use Rattle.std.proofs.lemmas.List.Edits.{length-insert, get_or-insert_below, get_or-insert_at, get_or-insert_above, length-remove, get_or-remove_below, get_or-remove_above}
use Rattle.std.proofs.lemmas.List.Sums.{sum_by-insert, sum_by-remove}
use Rattle.realisations.specs.Readings.{Terms}
use Rattle.linear_combos.proofs.Weights.{weighed-insert}
use Rattle.realisations.specs.Combinations.{key_cmp, term_at, norm_of, HasRisingKeys, HasKey, AreTerms, IsLowest, IsCanonical, AddsTerm}
use Rattle.linear_combos.specs.Combos.{IsGapFor}
use Rattle.std.proofs.Math.Nat.{eq-one_of_dvd-one}
use Prim.Native.Nat.{one}

-- two terms that are equal to two in order are in order
less_from : (a b c d : ℤ × List (List ℕ)) → a ≡ c → b ≡ d → key_cmp c.1 d.1 ≡ Less → key_cmp a.1 b.1 ≡ Less
less_from a b c d p q h = ap (λ x. key_cmp x.1 b.1) p ∙ ap (λ y. key_cmp c.1 y.1) q ∙ h

module _ (l : Terms) (at : ℕ) (t : ℤ × List (List ℕ)) (le : at ≤ length l) where
  below : (i : ℕ) → i < at → term_at (insert l at t) i ≡ term_at l i
  below i lt = get_or-insert_below l at t (pos 0, []) i lt le

  here : (i : ℕ) → i ≡ at → term_at (insert l at t) i ≡ t
  here i same = ap (term_at (insert l at t)) same ∙ get_or-insert_at l at t (pos 0, []) le

  above : (i : ℕ) → at < i → term_at (insert l at t) i ≡ term_at l (i - 1)
  above i lt =
      let e : i ≡ i - 1 + 1 = omega arith in
      ap (term_at (insert l at t)) e ∙ get_or-insert_above l at t (pos 0, []) (i - 1) (omega arith) le

  -- what holds of each term and of the new one holds of each term then
  pub insert_each : (P : ℤ × List (List ℕ) → Type 0) → ((i : ℕ) → i < length l → P (term_at l i)) → P t
      → (i : ℕ) → i < length (insert l at t) → P (term_at (insert l at t) i)
  insert_each P old new i lt =
      let size = length-insert l at t le in
      elim (cases_lt i at) [
        | inl under ↦ subst P (sym (below i under)) (old i (omega arith))
        | inr over ↦ elim (cases_lt at i) [
          | inl past ↦ subst P (sym (above i past)) (old (i - 1) (omega (arith, size)))
          | inr same ↦ subst P (sym (here i (omega arith))) new
        ]
      ]

  pub insert_rising : HasRisingKeys l → IsGapFor l t.1 at → HasRisingKeys (insert l at t)
  insert_rising rising gap i j lt in_range =
      let size = length-insert l at t le in
      elim (cases_lt j at) [
        | inl j_under ↦ less_from _ _ _ _ (below i (omega arith)) (below j j_under) (rising i j lt (omega arith))
        | inr j_over ↦ elim (cases_lt at j) [
          | inr j_same ↦ less_from _ _ _ _ (below i (omega arith)) (here j (omega arith)) (gap.smaller_before i (omega arith))
          | inl j_past ↦ elim (cases_lt i at) [
            | inl i_under ↦ less_from _ _ _ _ (below i i_under) (above j j_past) (rising i (j - 1) (omega arith) (omega (arith, size)))
            | inr i_over ↦ elim (cases_lt at i) [
              | inr i_same ↦ less_from _ _ _ _ (here i (omega arith)) (above j j_past) (gap.greater_after (j - 1) (omega arith) (omega (arith, size)))
              | inl i_past ↦ less_from _ _ _ _ (above i i_past) (above j j_past) (rising (i - 1) (j - 1) (omega arith) (omega (arith, size)))
            ]
          ]
        ]
      ]

-- a new term in its gap
pub insert_terms : (rank : ℕ) (l : Terms) (at : ℕ) (n : ℤ) (key : List (List ℕ)) →
    AreTerms rank l → IsGapFor l key at → n ≢ pos 0 → length key ≡ rank → norm_of l + unsigned_abs n < 2 ^ 127 →
    AreTerms rank (insert l at (n, key))
insert_terms rank l at n key old gap nonzero ranked room = record {
  rising = insert_rising l at (n, key) gap.in_range old.rising gap;
  nonzero = insert_each l at (n, key) gap.in_range (λ t. t.0 ≢ pos 0) old.nonzero nonzero;
  ranks = insert_each l at (n, key) gap.in_range (λ t. length t.1 ≡ rank) old.ranks ranked;
  small = omega (arith, sum_by-insert (λ t. unsigned_abs t.0) l at (n, key));
}

module _ (l : Terms) (at : ℕ) (lt : at < length l) where
  kept_below : (i : ℕ) → i < at → term_at (remove l at) i ≡ term_at l i
  kept_below i under = get_or-remove_below l at (pos 0, []) i under lt

  kept_above : (i : ℕ) → at ≤ i → term_at (remove l at) i ≡ term_at l (i + 1)
  kept_above i over = get_or-remove_above l at (pos 0, []) i over lt

  pub remove_each : (P : ℤ × List (List ℕ) → Type 0) → ((i : ℕ) → i < length l → P (term_at l i))
      → (i : ℕ) → i < length (remove l at) → P (term_at (remove l at) i)
  remove_each P old i in_range =
      let size = length-remove l at lt in
      elim (cases_lt i at) [
        | inl under ↦ subst P (sym (kept_below i under)) (old i (omega arith))
        | inr over ↦ subst P (sym (kept_above i over)) (old (i + 1) (omega (arith, size)))
      ]

  pub remove_rising : HasRisingKeys l → HasRisingKeys (remove l at)
  remove_rising rising i j less in_range =
      let size = length-remove l at lt in
      elim (cases_lt j at) [
        | inl j_under ↦ less_from _ _ _ _ (kept_below i (omega arith)) (kept_below j j_under) (rising i j less (omega arith))
        | inr j_over ↦ elim (cases_lt i at) [
          | inl i_under ↦ less_from _ _ _ _ (kept_below i i_under) (kept_above j j_over) (rising i (j + 1) (omega arith) (omega (arith, size)))
          | inr i_over ↦ less_from _ _ _ _ (kept_above i i_over) (kept_above j j_over) (rising (i + 1) (j + 1) (omega arith) (omega (arith, size)))
        ]
      ]

pub remove_terms : (rank : ℕ) (l : Terms) (at : ℕ) → at < length l → AreTerms rank l → AreTerms rank (remove l at)
remove_terms rank l at lt old = record {
  rising = remove_rising l at lt old.rising;
  nonzero = remove_each l at lt (λ t. t.0 ≢ pos 0) old.nonzero;
  ranks = remove_each l at lt (λ t. length t.1 ≡ rank) old.ranks;
  small = omega (arith, old.small, sum_by-remove (λ t. unsigned_abs t.0) l at (pos 0, []) lt);
}

-- a new numerator at a place, under the same key
module _ (l : Terms) (at : ℕ) (m : ℤ) (key : List (List ℕ)) (lt : at < length l) (same : (term_at l at).1 ≡ key) where
  set_key : (i : ℕ) → (term_at (set l at (m, key)) i).1 ≡ (term_at l i).1
  set_key i = elim (cases_lt i at) [
    | inl under ↦ let ne : i ≢ at = omega arith in ap (λ t. t.1) (get_or-set_other l at i (m, key) (pos 0, []) ne)
    | inr over ↦ elim (cases_lt at i) [
      | inl past ↦ let ne : i ≢ at = omega arith in ap (λ t. t.1) (get_or-set_other l at i (m, key) (pos 0, []) ne)
      | inr equal ↦
          let e : i ≡ at = omega arith in
          ap (λ n. (term_at (set l at (m, key)) n).1) e ∙ ap (λ t. t.1) (get_or-set_same l at (m, key) (pos 0, []) lt) ∙ sym same ∙ ap (λ n. (term_at l n).1) (sym e)
    ]
  ]

pub set_terms : (rank : ℕ) (l : Terms) (at : ℕ) (m : ℤ) (key : List (List ℕ)) → at < length l → (term_at l at).1 ≡ key → m ≢ pos 0
    → norm_of (set l at (m, key)) < 2 ^ 127 → AreTerms rank l → AreTerms rank (set l at (m, key))
set_terms rank l at m key lt same nonzero room old =
    let size = length-set l at (m, key) in
    record {
      rising = λ i j less in_range. ap (λ k. key_cmp k ((term_at (set l at (m, key)) j).1)) (set_key l at m key lt same i) ∙ ap (key_cmp ((term_at l i).1)) (set_key l at m key lt same j) ∙ old.rising i j less (omega (arith, size));
      nonzero = λ i in_range. elim (cases_lt i at) [
        | inl under ↦ let ne : i ≢ at = omega arith in subst (λ t. t.0 ≢ pos 0) (sym (get_or-set_other l at i (m, key) (pos 0, []) ne)) (old.nonzero i (omega (arith, size)))
        | inr over ↦ elim (cases_lt at i) [
          | inl past ↦ let ne : i ≢ at = omega arith in subst (λ t. t.0 ≢ pos 0) (sym (get_or-set_other l at i (m, key) (pos 0, []) ne)) (old.nonzero i (omega (arith, size)))
          | inr equal ↦
              let e : i ≡ at = omega arith in
              subst (λ t. t.0 ≢ pos 0) (sym (ap (term_at (set l at (m, key))) e ∙ get_or-set_same l at (m, key) (pos 0, []) lt)) nonzero
        ]
      ];
      ranks = λ i in_range. ap length (set_key l at m key lt same i) ∙ old.ranks i (omega (arith, size));
      small = room;
    }

-- a denominator of 1 is in lowest terms
pub lowest_one : (l : Terms) → IsLowest 1 l
unfolding one
lowest_one l = record { positive = omega arith; small = omega arith; coprime = λ d divides each. eq-one_of_dvd-one divides }

-- where each new term has an old key or the new one, so has each new key
each_key : (l new : Terms) (key : List (List ℕ)) → ((i : ℕ) → i < length new → HasKey l (term_at new i).1 ⊎ ((term_at new i).1 ≡ key))
    → (k : List (List ℕ)) → HasKey new k → HasKey l k ⊎ (k ≡ key)
each_key l new key each k (i, in_range, is) = subst (λ (x : List (List ℕ)). HasKey l x ⊎ (x ≡ key)) is (each i in_range)

pub keys-insert : (l : Terms) (at : ℕ) (n : ℤ) (key : List (List ℕ)) → at ≤ length l
    → (k : List (List ℕ)) → HasKey (insert l at (n, key)) k → HasKey l k ⊎ (k ≡ key)
keys-insert l at n key le =
    each_key l (insert l at (n, key)) key (insert_each l at (n, key) le (λ t. HasKey l t.1 ⊎ (t.1 ≡ key)) (λ i in_range. inl (i, in_range, refl)) (inr refl))

pub keys-remove : (l : Terms) (at : ℕ) (key : List (List ℕ)) → at < length l
    → (k : List (List ℕ)) → HasKey (remove l at) k → HasKey l k ⊎ (k ≡ key)
keys-remove l at key lt =
    each_key l (remove l at) key (remove_each l at lt (λ t. HasKey l t.1 ⊎ (t.1 ≡ key)) (λ i in_range. inl (i, in_range, refl)))

pub keys-set : (l : Terms) (at : ℕ) (m : ℤ) (key : List (List ℕ)) → at < length l → (term_at l at).1 ≡ key
    → (k : List (List ℕ)) → HasKey (set l at (m, key)) k → HasKey l k ⊎ (k ≡ key)
keys-set l at m key lt same k (i, in_range, is) =
    let size = length-set l at (m, key) in
    inl (i, omega (arith, size), sym (set_key l at m key lt same i) ∙ is)

pub zero_canonical : (rank : ℕ) → IsCanonical rank 1 []
zero_canonical rank = record {
  ordered = record {
    rising = λ i j less in_range. absurd (omega arith);
    nonzero = λ i in_range. absurd (omega arith);
    ranks = λ i in_range. absurd (omega arith);
    small = omega arith;
  };
  lowest = lowest_one [];
}

pub adds-insert : (old new : Terms) (at : ℕ) (num : ℤ) (key : List (List ℕ)) → at ≤ length old → new ≡ insert old at (num, key) → AddsTerm old new num key
adds-insert old new at num key le is =
    rw is (record { weighs = λ weight. weighed-insert weight old at num key; keys = keys-insert old at num key le })
