-- Steps of the tensor product of two combinations.
use Rattle.std.proofs.Common.{◌≡◌, ℕ, ◌+◌, ◌*◌, ◌^◌, ◌<◌, ◌≤◌, [], ◌∷◌, ◌++◌, length, take, inl, inr, refl, sym, ◌∙◌, ap, subst, arith, unsigned_abs}
use Rattle.std.proofs.Math.IntN.{ℤ, pos, ◌+ℤ◌, ◌*ℤ◌, *ℤ-zero}
use Rattle.std.proofs.Math.Nat.{mul-le-mul_left, mul-le-mul_right}
use Rattle.std.specs.declared.cmp.Ordering.{Ordering}
use Rattle.std.specs.declared.cmp.Ordering.TheVariants.{Less, Equal, Greater}
use Rattle.std.specs.Ordering.{nat_cmp, ordering_then}
use Rattle.std.specs.Cmp.Lexicographic.{slice_cmp, nat_list_cmp_total}
use Rattle.std.proofs.lemmas.Cmp.{tied_itself}
use Rattle.std.proofs.lemmas.Int.{ints, unsigned_abs-mul}
use Rattle.std.proofs.lemmas.List.{take_all}
use Rattle.hopf_num.proofs.Ring.{*ℤ-+ℤ, *ℤ_assoc}
use Rattle.realisations.specs.Readings.{Terms}
use Rattle.realisations.specs.Combinations.{Combination, key_cmp, term_at, norm_of, weighed, AreTerms, AddsTerm}
use Rattle.linear_combos.specs.Combos.{IsGapFor, IsTensor}
use Rattle.linear_combos.specs.Merges.{IsOver, IsPairBefore, AreProducts}
use Rattle.realisations.proofs.Coefficients.{Codes}
use Rattle.linear_combos.proofs.Merging.{last_gap, weighed-more}
use Rattle.linear_combos.proofs.Weights.{norm-more, norm-part}

-- the first comparison decides, or else the later one
then_less : (o p q : Ordering) → ordering_then o p ≡ Less → (p ≡ Less → q ≡ Less) → ordering_then o q ≡ Less
then_less Less p q less later = refl
then_less Equal p q less later = later less
then_less Greater p q less later = less

-- a smaller key of the same length stays smaller, whatever follows
key_cmp-append_less : (a b c d : Codes) → length a ≡ length b → key_cmp a b ≡ Less → key_cmp (a ++ c) (b ++ d) ≡ Less
key_cmp-append_less [] [] c d size less = absurd (cc)
key_cmp-append_less [] (y ∷ b) c d size less = absurd (omega arith)
key_cmp-append_less (x ∷ a) [] c d size less = absurd (omega arith)
key_cmp-append_less (x ∷ a) (y ∷ b) c d size less =
    then_less (slice_cmp nat_cmp x y) (key_cmp a b) (key_cmp (a ++ c) (b ++ d)) less (key_cmp-append_less a b c d (omega arith))

-- behind the same key the order is that of what follows
key_cmp-append_same : (a c d : Codes) → key_cmp c d ≡ Less → key_cmp (a ++ c) (a ++ d) ≡ Less
key_cmp-append_same [] c d less = less
key_cmp-append_same (x ∷ a) c d less =
    ap (λ o. ordering_then o (key_cmp (a ++ c) (a ++ d))) (tied_itself nat_list_cmp_total x) ∙ key_cmp-append_same a c d less

-- a pair before a place is before the next one
pair_later : (a b : Terms) (i j : ℕ) (key : Codes) → IsPairBefore a b i j key → IsPairBefore a b i (j + 1) key
pair_later a b i j key p = record {
  left = p.left;
  right = p.right;
  in_left = p.in_left;
  in_right = p.in_right;
  earlier = elim p.earlier [
    | inl less ↦ inl less
    | inr same ↦ inr (same.0, omega (arith, same.1))
  ];
  is = p.is;
}

-- and before the next row
pair_in_row : (a b : Terms) (i j : ℕ) (key : Codes) → IsPairBefore a b i j key → IsPairBefore a b (i + 1) 0 key
pair_in_row a b i j key p = record {
  left = p.left;
  right = p.right;
  in_left = p.in_left;
  in_right = p.in_right;
  earlier = inl (elim p.earlier [
    | inl less ↦ omega (arith, less)
    | inr same ↦ omega (arith, same.0)
  ]);
  is = p.is;
}

module _ (a b : Terms) (i j : ℕ) (ts : Terms) (is : AreProducts a b i j ts) (here : i < length a) (there : j < length b) where
  -- the key of the next product comes after all keys so far
  pub product_gap : (m n : ℕ) → AreTerms m a → AreTerms n b → IsGapFor ts ((term_at a i).1 ++ (term_at b j).1) (length ts)
  product_gap m n left right =
      last_gap ts _ (λ k has.
      let p = is.keys k has in
      let earlier : key_cmp ((term_at a p.left).1 ++ (term_at b p.right).1) ((term_at a i).1 ++ (term_at b j).1) ≡ Less =
      elim p.earlier [
        | inl less ↦ key_cmp-append_less ((term_at a p.left).1) ((term_at a i).1) _ _ (left.ranks p.left p.in_left ∙ sym (left.ranks i here)) (left.rising p.left i less here)
        | inr same ↦ subst (λ l. key_cmp ((term_at a l).1 ++ (term_at b p.right).1) ((term_at a i).1 ++ (term_at b j).1) ≡ Less) (sym same.0)
            (key_cmp-append_same ((term_at a i).1) _ _ (right.rising p.right j same.1 there))
      ] in
      subst (λ x. key_cmp x ((term_at a i).1 ++ (term_at b j).1) ≡ Less) (sym p.is) earlier)

  -- and the next product has room
  pub product_room : norm_of a * norm_of b < 2 ^ 127 → norm_of ts + unsigned_abs ((term_at a i).0 *ℤ (term_at b j).0) < 2 ^ 127
  product_room room =
      let x = unsigned_abs (term_at a i).0 in
      omega (
        arith,
        is.norm,
        unsigned_abs-mul (term_at a i).0 (term_at b j).0,
        ap (λ n. x * n) (norm-more b j there),
        ap (λ n. n * norm_of b) (norm-more a i here),
        mul-le-mul_left x (norm-part b (j + 1)),
        mul-le-mul_right (norm_of b) (norm-part a (i + 1)),
        room,
      )

  -- the weight of the row with a term more
  row-more : (w : Codes → ℤ) → (term_at a i).0 *ℤ weighed (λ right. w ((term_at a i).1 ++ right)) (take (j + 1) b)
      ≡ (term_at a i).0 *ℤ weighed (λ right. w ((term_at a i).1 ++ right)) (take j b)
      +ℤ ((term_at a i).0 *ℤ (term_at b j).0) *ℤ w ((term_at a i).1 ++ (term_at b j).1)
  row-more w =
      let x = (term_at a i).0 in
      let g = λ (right : Codes). w ((term_at a i).1 ++ right) in
      ap (λ z. x *ℤ z) (weighed-more g b j there) ∙ *ℤ-+ℤ x (weighed g (take j b)) ((term_at b j).0 *ℤ g (term_at b j).1)
      ∙ ap (λ z. x *ℤ weighed g (take j b) +ℤ z) (*ℤ_assoc x (term_at b j).0 (g (term_at b j).1))

  -- the next product was added
  product_more : (new : Terms) → AddsTerm ts new ((term_at a i).0 *ℤ (term_at b j).0) ((term_at a i).1 ++ (term_at b j).1)
      → norm_of new ≤ norm_of ts + unsigned_abs ((term_at a i).0 *ℤ (term_at b j).0) → AreProducts a b i (j + 1) new
  product_more new adds norm = record {
    in_left = is.in_left;
    in_right = omega arith;
    weighs = λ w. omega (arith, ints, adds.weighs w, is.weighs w, row-more w);
    norm = omega (arith, norm, is.norm, unsigned_abs-mul (term_at a i).0 (term_at b j).0, ap (λ n. unsigned_abs (term_at a i).0 * n) (norm-more b j there));
    keys = λ key has. elim (adds.keys key has) [
      | inl old ↦ pair_later a b i j key (is.keys key old)
      | inr same ↦ record { left = i; right = j; in_left = here; in_right = there; earlier = inr (refl, omega arith); is = same }
    ];
  }

  -- the same with the numerator and the key as the code has them
  pub product_added : (new : Terms) (num : ℤ) (key : Codes) → num ≡ (term_at a i).0 *ℤ (term_at b j).0 → key ≡ (term_at a i).1 ++ (term_at b j).1
      → AddsTerm ts new num key → norm_of new ≤ norm_of ts + unsigned_abs num → AreProducts a b i (j + 1) new
  product_added new num key num_is key_is adds norm =
      product_more new (subst (λ k. AddsTerm ts new ((term_at a i).0 *ℤ (term_at b j).0) k) key_is (subst (λ n. AddsTerm ts new n key) num_is adds))
      (subst (λ n. norm_of new ≤ norm_of ts + unsigned_abs n) num_is norm)

-- a row is finished
pub row_added : (a b : Terms) (i : ℕ) (ts : Terms) → AreProducts a b i (length b) ts → i < length a → AreProducts a b (i + 1) 0 ts
row_added a b i ts is here =
    let whole : take (length b) b ≡ b = take_all (length b) b (omega arith) in record {
      in_left = omega arith;
      in_right = omega arith;
      weighs = λ w.
          let x = (term_at a i).0 in
          let row = ap (λ l. x *ℤ weighed (λ right. w ((term_at a i).1 ++ right)) l) whole in
          omega (arith, ints, is.weighs w, row, weighed-more (λ left. weighed (λ right. w (left ++ right)) b) a i here, *ℤ-zero (term_at a (i + 1)).0);
      norm = omega (arith, is.norm, ap (λ l. unsigned_abs (term_at a i).0 * norm_of l) whole, ap (λ n. n * norm_of b) (norm-more a i here));
      keys = λ key has. pair_in_row a b i (length b) key (is.keys key has);
    }

-- all products, brought to lowest terms
pub IsTensor-over : (a b c : Combination) (ts : Terms) → AreProducts a.terms b.terms (length a.terms) 0 ts → IsOver (a.rank + b.rank) (a.den * b.den) ts c → IsTensor a b c
IsTensor-over a b c ts is over =
    let whole : take (length a.terms) a.terms ≡ a.terms = take_all (length a.terms) a.terms (omega arith) in record {
      rank = over.rank;
      weighs = λ w.
          let all : weighed w ts ≡ weighed (λ left. weighed (λ right. w (left ++ right)) b.terms) a.terms =
          omega (arith, ints, is.weighs w, ap (weighed (λ left. weighed (λ right. w (left ++ right)) b.terms)) whole, *ℤ-zero (term_at a.terms (length a.terms)).0) in
          over.weighs w ∙ ap (λ z. z *ℤ pos c.den) all;
      keys = λ key has.
          let p = is.keys key (over.keys key has) in
          ((term_at a.terms p.left).1, (term_at b.terms p.right).1, (p.left, p.in_left, refl), (p.right, p.in_right, refl), p.is);
      den = over.den_within;
      norm = omega (arith, over.norm_within, is.norm, ap (λ l. norm_of l * norm_of b.terms) whole);
    }
