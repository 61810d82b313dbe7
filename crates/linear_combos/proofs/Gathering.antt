-- Any terms whose norm has room gather to canonical terms that weigh the same.
use Rattle.std.proofs.Common.{◌≡◌, ◌≢◌, ◌⊎◌, ℕ, zero, suc, ◌+◌, ◌^◌, ◌<◌, ◌≤◌, List, [], ◌∷◌, length, set, inl, inr, refl, sym, arith, unsigned_abs}
use Rattle.std.proofs.Math.IntN.{ℤ, pos, negsuc, ◌+ℤ◌, zero-*ℤ}
use Rattle.std.specs.declared.cmp.Ordering.{Ordering}
use Rattle.std.specs.declared.cmp.Ordering.TheVariants.{Less, Equal, Greater}
use Rattle.std.specs.List.{insert, remove}
use Rattle.std.proofs.lemmas.Int.{ints}
use Rattle.std.proofs.lemmas.List.Sums.{sum_by-cons, sum_by-insert, sum_by-set, sum_by-remove}
use Rattle.realisations.specs.Readings.{Terms}
use Rattle.realisations.specs.Combinations.{key_cmp, term_at, norm_of, HasRisingKeys, AreTerms, AddsTerm}
use Rattle.linear_combos.specs.Combos.{IsAt, IsGapFor, Gathers}
use Rattle.linear_combos.specs.Merges.{GreaterFrom}
use Rattle.hopf_num.proofs.SumsOfProducts.{abs_sum}
use Rattle.realisations.proofs.KeyOrders.{same_key}
use Rattle.linear_combos.proofs.Place.{smaller_up_to, greater_from}
use Rattle.linear_combos.proofs.Edits.{insert_terms, remove_terms, set_terms, keys-remove, keys-set, adds-insert, zero_canonical}
use Rattle.linear_combos.proofs.Weights.{weighed-set, weighed-remove}

-- the place of a key, or its gap
abbrev Placed : Terms → List (List ℕ) → Type 0
Placed l key = ((i : ℕ) × IsAt l key i) ⊎ ((i : ℕ) × IsGapFor l key i)

module _ (l : Terms) (rising : HasRisingKeys l) (key : List (List ℕ)) where
  -- one comparison, where greater keys follow
  placed_by : (n : ℕ) → n < length l → GreaterFrom l key (n + 1) → (GreaterFrom l key n → Placed l key)
      → (o : Ordering) → key_cmp ((term_at l n).1) key ≡ o → Placed l key
  placed_by n lt greater before Less e = inr (n + 1, record { in_range = omega arith; smaller_before = smaller_up_to l rising key n lt e; greater_after = greater })
  placed_by n lt greater before Equal e = inl (n, record { in_range = lt; has_key = same_key _ _ e })
  placed_by n lt greater before Greater e = before (greater_from l rising key n lt e)

  -- a place or a gap, where greater keys follow
  placed_below : (n : ℕ) → n ≤ length l → GreaterFrom l key n → Placed l key
  placed_below zero le greater = inr (0, record { in_range = le; smaller_before = λ j lt. absurd (omega arith); greater_after = greater })
  placed_below (suc n) le greater =
      placed_by n (omega arith) (λ j from lt. greater j (omega arith) lt) (λ h. placed_below n (omega arith) h) (key_cmp ((term_at l n).1) key) refl

  -- a key has a place or a gap among terms with rising keys
  pub placed : Placed l key
  placed = placed_below (length l) (omega arith) (λ j from lt. absurd (omega arith))

-- an integer is 0 or not
zero_or_not : (z : ℤ) → (z ≡ pos 0) ⊎ (z ≢ pos 0)
zero_or_not (pos zero) = inl refl
zero_or_not (pos (suc n)) = inr (λ e. absurd (omega (arith, ints)))
zero_or_not (negsuc n) = inr (λ e. absurd (omega (arith, ints)))

-- canonical terms to which the numerator times the key was added, within the sum of the norms
pub record Adds (rank : ℕ) (old new : Terms) (num : ℤ) (key : List (List ℕ)) : Type 0 where
  pub terms : AreTerms rank new
  pub adds : AddsTerm old new num key
  pub norm : norm_of new ≤ norm_of old + unsigned_abs num

module _ (rank : ℕ) (us : Terms) (num : ℤ) (key : List (List ℕ)) (old : AreTerms rank us) (ranked : length key ≡ rank) (room : norm_of us + unsigned_abs num < 2 ^ 127) where
  -- a term of numerator 0
  add_none : num ≡ pos 0 → Adds rank us us num key
  add_none e = record {
    terms = old;
    adds = record { weighs = λ weight. rw e (omega (arith, ints, zero-*ℤ (weight key))); keys = λ k has. inl has };
    norm = omega arith;
  }

  -- a term in its gap
  add_new : (i : ℕ) → IsGapFor us key i → num ≢ pos 0 → Adds rank us (insert us i (num, key)) num key
  add_new i gap nonzero = record {
    terms = insert_terms rank us i num key old gap nonzero ranked room;
    adds = adds-insert us _ i num key gap.in_range refl;
    norm = omega (arith, sum_by-insert (λ t. unsigned_abs t.0) us i (num, key));
  }

  -- a term that takes another away
  add_opposite : (i : ℕ) → IsAt us key i → (term_at us i).0 +ℤ num ≡ pos 0 → Adds rank us (remove us i) num key
  add_opposite i at e = record {
    terms = remove_terms rank us i at.in_range old;
    adds = record { weighs = λ weight. weighed-remove weight us i num key at.in_range at.has_key (sym e); keys = keys-remove us i key at.in_range };
    norm = omega (arith, sum_by-remove (λ t. unsigned_abs t.0) us i (pos 0, []) at.in_range);
  }

  -- a term at the place of another, where something is left
  add_like : (i : ℕ) → IsAt us key i → (term_at us i).0 +ℤ num ≢ pos 0 → Adds rank us (set us i ((term_at us i).0 +ℤ num, key)) num key
  add_like i at nonzero =
      let total = (term_at us i).0 +ℤ num in
      let norm : norm_of (set us i (total, key)) ≤ norm_of us + unsigned_abs num =
      omega (arith, sum_by-set (λ t. unsigned_abs t.0) us i (total, key) (pos 0, []) at.in_range, abs_sum (term_at us i).0 num) in
      record {
        terms = set_terms rank us i total key at.in_range at.has_key nonzero (omega arith) old;
        adds = record { weighs = λ weight. weighed-set weight us i num total key at.in_range at.has_key refl; keys = keys-set us i total key at.in_range at.has_key };
        norm = norm;
      }

  -- a term can be added to canonical terms that have room for it
  pub add_exists : (new : Terms) × Adds rank us new num key
  add_exists = elim (zero_or_not num) [
    | inl none ↦ (us, add_none none)
    | inr some ↦ elim (placed us old.rising key) [
      | inr gap ↦ (insert us gap.0 (num, key), add_new gap.0 gap.1 some)
      | inl at ↦ elim (zero_or_not ((term_at us at.0).0 +ℤ num)) [
        | inl none ↦ (remove us at.0, add_opposite at.0 at.1 none)
        | inr left ↦ (set us at.0 ((term_at us at.0).0 +ℤ num, key), add_like at.0 at.1 left)
      ]
    ]
  ]

-- one term more
gathers_more : (rank : ℕ) (t : ℤ × List (List ℕ)) (ts us new : Terms) → Gathers rank ts us → Adds rank us new t.0 t.1 → Gathers rank (t ∷ ts) new
gathers_more rank t ts us new g a = record {
  terms = a.terms;
  norm = omega (arith, sum_by-cons (λ u. unsigned_abs u.0) t ts);
  weighs = λ weight. omega (arith, ints, a.adds.weighs weight, g.weighs weight);
  keys = λ key has. elim (a.adds.keys key has) [
    | inl old ↦ let (i, lt, is) = g.keys key old in (suc i, omega arith, is)
    | inr same ↦ (0, omega arith, sym same)
  ];
}

-- any terms of one rank whose norm has room gather to canonical terms
pub gathered : (rank : ℕ) (ts : Terms) → ((i : ℕ) → i < length ts → length ((term_at ts i).1) ≡ rank) → norm_of ts < 2 ^ 127 → (us : Terms) × Gathers rank ts us
gathered rank [] ranks room = ([], record { terms = (zero_canonical rank).ordered; norm = omega arith; weighs = λ weight. refl; keys = λ key has. has })
gathered rank (t ∷ ts) ranks room =
    let size = sum_by-cons (λ u. unsigned_abs u.0) t ts in
    let rest = gathered rank ts (λ i lt. ranks (suc i) (omega arith)) (omega (arith, size)) in
    let more = add_exists rank rest.0 t.0 t.1 rest.1.terms (ranks 0 (omega arith)) (omega (arith, size, rest.1.norm)) in
    (more.0, gathers_more rank t ts rest.0 more.0 rest.1 more.1)
