-- Steps of the merge of two lists of terms, each times a factor.
use Rattle.std.proofs.Common.{◌≡◌, ℕ, ◌+◌, ◌*◌, ◌^◌, ◌<◌, ◌≤◌, List, [], length, take, get_or, inl, inr, refl, sym, ◌∙◌, ap, subst, arith, unsigned_abs}
use Rattle.std.proofs.Math.IntN.{ℤ, pos, ◌+ℤ◌, ◌*ℤ◌}
use Rattle.std.proofs.Math.Nat.{mul-le-mul_right}
use Rattle.std.specs.declared.cmp.Ordering.{Ordering}
use Rattle.std.specs.declared.cmp.Ordering.TheVariants.{Less, Equal, Greater}
use Rattle.std.proofs.lemmas.Int.{ints, unsigned_abs-mul}
use Rattle.std.proofs.lemmas.List.{take_more, take_all, get_or_default}
use Rattle.hopf_num.proofs.Ring.{+ℤ-*ℤ}
use Rattle.hopf_num.proofs.SumsOfProducts.{abs_sum}
use Rattle.realisations.specs.Readings.{Terms}
use Rattle.realisations.specs.Combinations.{Combination, key_cmp, term_at, norm_of, weighed, HasRisingKeys, HasKey, AddsTerm}
use Rattle.linear_combos.specs.Combos.{IsGapFor}
use Rattle.linear_combos.specs.Merges.{GreaterFrom, IsNext, IsMerged, IsOver, IsCombined}
use Rattle.realisations.proofs.Coefficients.{less_turned}
use Rattle.realisations.proofs.KeyOrders.{same_key}
use Rattle.linear_combos.proofs.Place.{greater_from}
use Rattle.linear_combos.proofs.Weights.{weighed-insert, norm-more, norm-part}
use Rattle.linear_combos.proofs.LowestCombos.{push-insert}
use Rattle.realisations.proofs.Agreement.{times_turned}

-- a key that is greater than all stands in the last gap
pub last_gap : (ts : Terms) (key : List (List ℕ)) → ((k : List (List ℕ)) → HasKey ts k → key_cmp k key ≡ Less) → IsGapFor ts key (length ts)
last_gap ts key below = record {
  in_range = omega arith;
  smaller_before = λ j lt. below ((term_at ts j).1) (j, lt, refl);
  greater_after = λ j from lt. absurd (omega arith);
}

-- the weight of one term more
pub weighed-more : (w : List (List ℕ) → ℤ) (a : Terms) (i : ℕ) → i < length a
    → weighed w (take (i + 1) a) ≡ weighed w (take i a) +ℤ ((term_at a i).0 *ℤ w (term_at a i).1)
weighed-more w a i lt =
    ap (weighed w) (take_more a i (pos 0, []) lt ∙ push-insert (take i a) (term_at a i).0 (term_at a i).1)
    ∙ weighed-insert w (take i a) (length (take i a)) (term_at a i).0 (term_at a i).1

-- a term times a factor, with its weight
weighed-factor : (w : List (List ℕ) → ℤ) (a : Terms) (p : ℤ) (i : ℕ) → i < length a
    → weighed w (take (i + 1) a) *ℤ p ≡ weighed w (take i a) *ℤ p +ℤ (((term_at a i).0 *ℤ p) *ℤ w (term_at a i).1)
weighed-factor w a p i lt =
    ap (λ z. z *ℤ p) (weighed-more w a i lt) ∙ +ℤ-*ℤ (weighed w (take i a)) ((term_at a i).0 *ℤ w (term_at a i).1) p
    ∙ ap (λ z. weighed w (take i a) *ℤ p +ℤ z) (times_turned (term_at a i).0 (w (term_at a i).1) p)

-- the norm with a term more, times a factor
norm-factor : (a : Terms) (p : ℤ) (i : ℕ) → i < length a
    → norm_of (take (i + 1) a) * unsigned_abs p ≡ norm_of (take i a) * unsigned_abs p + unsigned_abs ((term_at a i).0 *ℤ p)
norm-factor a p i lt =
    omega (arith, ap (λ n. n * unsigned_abs p) (norm-more a i lt), unsigned_abs-mul (term_at a i).0 p)

-- a part of the terms, times a factor, within all
part-factor : (a : Terms) (p : ℤ) (i : ℕ) → norm_of (take i a) * unsigned_abs p ≤ norm_of a * unsigned_abs p
part-factor a p i = mul-le-mul_right (unsigned_abs p) (norm-part a i)

-- keys that are greater from a place on are so from the next one on
greater_later : (key : List (List ℕ)) (a : Terms) (i : ℕ) → GreaterFrom a key i → GreaterFrom a key (i + 1)
greater_later key a i below j from lt = below j (omega arith) lt

-- the keys behind a place are greater
greater_behind : (a : Terms) (i : ℕ) → HasRisingKeys a → GreaterFrom a ((term_at a i).1) (i + 1)
greater_behind a i rising j from lt = rising i j (omega arith) lt

-- the two lists change places
pub IsMerged-turned : (a : Terms) (p : ℤ) (b : Terms) (q : ℤ) (i j : ℕ) (ts : Terms) → IsMerged a p b q i j ts → IsMerged b q a p j i ts
IsMerged-turned a p b q i j ts is = record {
  in_left = is.in_right;
  in_right = is.in_left;
  weighs = λ w. omega (arith, ints, is.weighs w);
  norm = omega (arith, is.norm);
  keys = λ key has. elim (is.keys key has) [ inl h ↦ inr h | inr h ↦ inl h ];
  before_left = is.before_right;
  before_right = is.before_left;
}

module _ (a : Terms) (p : ℤ) (b : Terms) (q : ℤ) (i j : ℕ) (ts : Terms) (is : IsMerged a p b q i j ts)
    (room : norm_of a * unsigned_abs p + norm_of b * unsigned_abs q < 2 ^ 127) (here : i < length a) where
  -- the next term of the first list has its place
  pub left_gap : IsGapFor ts ((term_at a i).1) (length ts)
  left_gap = last_gap ts _ (λ k has. is.before_left k has i (omega arith) here)

  -- and room
  pub left_room : norm_of ts + unsigned_abs ((term_at a i).0 *ℤ p) < 2 ^ 127
  left_room = omega (arith, is.norm, norm-factor a p i here, part-factor a p (i + 1), part-factor b q j, room)

  -- the next term of the first list was added
  left_more : (new : Terms) → GreaterFrom b ((term_at a i).1) j → HasRisingKeys a → AddsTerm ts new ((term_at a i).0 *ℤ p) ((term_at a i).1)
      → norm_of new ≤ norm_of ts + unsigned_abs ((term_at a i).0 *ℤ p) → IsMerged a p b q (i + 1) j new
  left_more new below rising adds norm = record {
    in_left = omega arith;
    in_right = is.in_right;
    weighs = λ w. omega (arith, ints, adds.weighs w, is.weighs w, weighed-factor w a p i here);
    norm = omega (arith, norm, is.norm, norm-factor a p i here);
    keys = λ key has. elim (adds.keys key has) [
      | inl old ↦ is.keys key old
      | inr same ↦ inl (i, here, sym same)
    ];
    before_left = λ key has. elim (adds.keys key has) [
      | inl old ↦ greater_later key a i (is.before_left key old)
      | inr same ↦ subst (λ k. GreaterFrom a k (i + 1)) (sym same) (greater_behind a i rising)
    ];
    before_right = λ key has. elim (adds.keys key has) [
      | inl old ↦ is.before_right key old
      | inr same ↦ subst (λ k. GreaterFrom b k j) (sym same) below
    ];
  }

  -- the same with the numerator and the key as the code has them
  pub left_added : (new : Terms) (num : ℤ) (key : List (List ℕ)) → GreaterFrom b ((term_at a i).1) j → HasRisingKeys a
      → num ≡ (term_at a i).0 *ℤ p → key ≡ (term_at a i).1 → AddsTerm ts new num key → norm_of new ≤ norm_of ts + unsigned_abs num → IsMerged a p b q (i + 1) j new
  left_added new num key below rising num_is key_is adds norm =
      left_more new below rising (subst (λ k. AddsTerm ts new ((term_at a i).0 *ℤ p) k) key_is (subst (λ n. AddsTerm ts new n key) num_is adds))
      (subst (λ n. norm_of new ≤ norm_of ts + unsigned_abs n) num_is norm)

  module _ (there : j < length b) where
    -- the sum of the next terms of both lists has room
    pub both_room : norm_of ts + (unsigned_abs ((term_at a i).0 *ℤ p) + unsigned_abs ((term_at b j).0 *ℤ q)) < 2 ^ 127
    both_room = omega (arith, is.norm, norm-factor a p i here, part-factor a p (i + 1), norm-factor b q j there, part-factor b q (j + 1), room)

    -- the next terms of both lists, which have one key, were added
    both_more : (new : Terms) → (term_at a i).1 ≡ (term_at b j).1 → HasRisingKeys a → HasRisingKeys b
        → AddsTerm ts new ((term_at a i).0 *ℤ p +ℤ (term_at b j).0 *ℤ q) ((term_at a i).1)
        → norm_of new ≤ norm_of ts + unsigned_abs ((term_at a i).0 *ℤ p +ℤ (term_at b j).0 *ℤ q) → IsMerged a p b q (i + 1) (j + 1) new
    both_more new one_key rising_a rising_b adds norm = record {
      in_left = omega arith;
      in_right = omega arith;
      weighs = λ w.
          let x = (term_at a i).0 *ℤ p in
          let y = (term_at b j).0 *ℤ q in
          let split : (x +ℤ y) *ℤ w (term_at a i).1 ≡ x *ℤ w (term_at a i).1 +ℤ y *ℤ w (term_at b j).1 =
          +ℤ-*ℤ x y (w (term_at a i).1) ∙ ap (λ k. x *ℤ w (term_at a i).1 +ℤ y *ℤ w k) one_key in
          omega (arith, ints, adds.weighs w, is.weighs w, split, weighed-factor w a p i here, weighed-factor w b q j there);
      norm = omega (arith, norm, is.norm, norm-factor a p i here, norm-factor b q j there, abs_sum ((term_at a i).0 *ℤ p) ((term_at b j).0 *ℤ q));
      keys = λ key has. elim (adds.keys key has) [
        | inl old ↦ is.keys key old
        | inr same ↦ inl (i, here, sym same)
      ];
      before_left = λ key has. elim (adds.keys key has) [
        | inl old ↦ greater_later key a i (is.before_left key old)
        | inr same ↦ subst (λ k. GreaterFrom a k (i + 1)) (sym same) (greater_behind a i rising_a)
      ];
      before_right = λ key has. elim (adds.keys key has) [
        | inl old ↦ greater_later key b j (is.before_right key old)
        | inr same ↦ subst (λ k. GreaterFrom b k (j + 1)) (sym (same ∙ one_key)) (greater_behind b j rising_b)
      ];
    }

    -- the same with the numerator and the key as the code has them
    pub both_added : (new : Terms) (num : ℤ) (key : List (List ℕ)) → (term_at a i).1 ≡ (term_at b j).1 → HasRisingKeys a → HasRisingKeys b
        → num ≡ (term_at a i).0 *ℤ p +ℤ (term_at b j).0 *ℤ q → key ≡ (term_at a i).1 → AddsTerm ts new num key
        → norm_of new ≤ norm_of ts + unsigned_abs num → IsMerged a p b q (i + 1) (j + 1) new
    both_added new num key one_key rising_a rising_b num_is key_is adds norm =
        both_more new one_key rising_a rising_b
        (subst (λ k. AddsTerm ts new ((term_at a i).0 *ℤ p +ℤ (term_at b j).0 *ℤ q) k) key_is (subst (λ n. AddsTerm ts new n key) num_is adds))
        (subst (λ n. norm_of new ≤ norm_of ts + unsigned_abs n) num_is norm)

-- all terms of both lists, brought to lowest terms
pub IsCombined-merged : (r den : ℕ) (a : Terms) (p : ℤ) (b : Terms) (q : ℤ) (ts : Terms) (c : Combination)
    → IsMerged a p b q (length a) (length b) ts → IsOver r den ts c → IsCombined r den a p b q c
IsCombined-merged r den a p b q ts c is over = record {
  rank = over.rank;
  weighs = λ w.
      over.weighs w ∙ ap (λ z. z *ℤ pos c.den) (is.weighs w
      ∙ ap (λ l. weighed w l *ℤ p +ℤ weighed w (take (length b) b) *ℤ q) (take_all (length a) a (omega arith))
      ∙ ap (λ l. weighed w a *ℤ p +ℤ weighed w l *ℤ q) (take_all (length b) b (omega arith)));
  keys = λ key has. is.keys key (over.keys key has);
}

-- the order of the keys at two places tells which list is next
next_by_order : (a b : Terms) (i j : ℕ) (o : Ordering) → HasRisingKeys a → HasRisingKeys b → i < length a → j < length b
    → key_cmp ((term_at a i).1) ((term_at b j).1) ≡ o → IsNext a b i j o
next_by_order a b i j Less rising_a rising_b here there e = (here, greater_from b rising_b ((term_at a i).1) j there (less_turned ((term_at a i).1) ((term_at b j).1) e))
next_by_order a b i j Equal rising_a rising_b here there e = (here, there, same_key ((term_at a i).1) ((term_at b j).1) e)
next_by_order a b i j Greater rising_a rising_b here there e = (there, greater_from a rising_a ((term_at b j).1) i here e)

-- the same as the code reads the terms
pub next_by_read : (a b : Terms) (i j : ℕ) (t u : ℤ × List (List ℕ)) (o : Ordering) → HasRisingKeys a → HasRisingKeys b → i < length a → j < length b
    → o ≡ key_cmp ((get_or a i t).1) ((get_or b j u).1) → IsNext a b i j o
next_by_read a b i j t u o rising_a rising_b here there is =
    next_by_order a b i j o rising_a rising_b here there
    (ap (λ x. key_cmp x.1 ((term_at b j).1)) (get_or_default a i (pos 0, []) t here) ∙ ap (λ x. key_cmp ((get_or a i t).1) x.1) (get_or_default b j (pos 0, []) u there) ∙ sym is)
